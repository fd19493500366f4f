-- What acts do, from what the calls of memory promise.
use Rattle.std.proofs.Common.{◌≡◌, Some, sym, ap, ap₂, ◌∙◌, subst}
use Rattle.std.specs.Prelude.{option_map, Result, Ok, Err, OnErr}
use Rattle.ub_base.specs.declared.names.Event.{Event}
use Rattle.exposure.specs.declared.prov.Prov.{Prov}
use Rattle.exposure.specs.declared.prov.Prov.TheVariants.{Empty, Whole, Either}
use Rattle.mem_spec.specs.Script.{Script, Act as Did, Raised, run}
use Rattle.mem_spec.specs.Streams.{Io}
use Rattle.mem_objects.specs.declared.answer.MemFault.{MemFault}
use Rattle.mem_objects.specs.declared.answer.MemFault.TheVariants as faults
use Rattle.mem_objects.specs.declared.value.Value.{Value as Kept_value}
use Rattle.mem_objects.specs.declared.value.Value.TheVariants as kept
use Rattle.mem_objects.specs.Keeps.{Keeps, RowsStay}
use Rattle.mem_objects.specs.Loads.{IfRaise}
use Rattle.mem_objects.specs.Made.{IsMade}
use Rattle.mem_objects.specs.Memory.{Kept, HasCell, store_of}
use Rattle.mem_objects.specs.Pieces.{IsMadeValue}
use Rattle.c_model.specs.Values as model
use Rattle.c_model.specs.Values.{Value, or_nothing, pointer_of, pointer_value}
use Rattle.run_values.specs.declared.values.Pointer.{Pointer}
use Rattle.run_values.specs.Kept.{IsOf}
use Rattle.run_values.specs.Views.{value_in, pointer_at}
use Rattle.run_values.proofs.Keeping.{seen_pointer}
use Rattle.run_layout.specs.declared.steps.Act.{Act}
use Rattle.run_layout.specs.declared.steps.Operand.{Operand}
use Rattle.run_state.specs.declared.machine.Machine.{Machine}
use Rattle.run_state.specs.Operands.{operand_in}
use Rattle.run_answers.specs.Faults.{fault_of}
use Rattle.run_answers.specs.Acts.{given_by, script_in, IsGiven}
use Rattle.run_answers.specs.declared.outcome.Outcome.{Outcome}
use Rattle.run_answers.specs.declared.fault.Fault.{Fault}
use Rattle.run_answers.specs.Performs.{store_in, Does}

-- ---- the value of an operand
pub given_value : (m : Machine) (o : Operand) (h : Kept_value) → operand_in m o ≡ Some h → given_by m o ≡ value_in m.memory h
given_value m o h e = ap (λ z. or_nothing (option_map (value_in m.memory) z)) e

-- what is said of the operand that is there
abbrev pub Of : {A : Type 0} → Machine → Operand → (Value → A) → A → Type 0
Of m o f a = (h : Kept_value) → operand_in m o ≡ Some h → (k : Kept) → a ≡ f (value_in k h)

pub given_as : {A : Type 0} (m : Machine) (o : Operand) (f : Value → A) (a : A) → Of m o f a → IsGiven m o → a ≡ f (given_by m o)
given_as m o f a of g = of g.0 g.1 m.memory ∙ ap f (sym (given_value m o g.0 g.1))

-- .. of a copy
pub given_copy : (m : Machine) (o : Operand) (v : Kept_value) → ((h : Kept_value) → operand_in m o ≡ Some h → v ≡ h) → IsGiven m o
    → value_in m.memory v ≡ given_by m o
given_copy m o v copy g = ap (value_in m.memory) (copy g.0 g.1) ∙ sym (given_value m o g.0 g.1)

pub copy_of : (m : Machine) (o : Operand) (v : Kept_value) → ((h : Kept_value) → operand_in m o ≡ Some h → v ≡ h) → IsGiven m o → IsOf m.memory v
copy_of m o v copy g = subst (λ (h : Kept_value). IsOf m.memory h) (sym (copy g.0 g.1)) g.2

-- ---- pointers that were made
pub made_in : (m : Kept) (h : Kept_value) → IsMadeValue m h → IsMade m (pointer_of (value_in m h)).prov
made_in m (kept.Ptr a prov) made = made
made_in m (kept.Int z) made = tt
made_in m (kept.Func a) made = tt
made_in m (kept.Block b) made = tt
made_in m kept.Missing made = tt
made_in m kept.Nothing made = tt

pub pointer_made : (m : Machine) (o : Operand) (p : Pointer) → Of m o pointer_of (pointer_at p) → IsGiven m o → IsMade m.memory p.prov
pointer_made m o p of g =
    subst (λ (q : model.Pointer). IsMade m.memory q.prov) (sym (of g.0 g.1 m.memory)) (made_in m.memory g.0 g.2.made)

pub cell_of : (m : Kept) (p : Prov) → IsMade m p → HasCell m p
cell_of m Empty made = tt
cell_of m (Whole x) made = tt
cell_of m (Either id past start) made = made.0

-- ---- by another script that is the same
pub by_script : (m : Machine) (s t : Script Value) (r : Did Value) → s ≡ t → run m.memory.rows s (store_in m) ≡ r → run m.memory.rows t (store_in m) ≡ r
by_script m s t r same e = sym (ap (λ (z : Script Value). run m.memory.rows z (store_in m)) same) ∙ e

-- a call of the memory has raised a clause, or wanted memory
pub mem_fails : (m end : Machine) (who : Event) (a : Act) (s : Script Value) (f : MemFault) → s ≡ script_in m.memory.rows m who a
    → IfRaise f (λ c. (io : Io) → run m.memory.rows s (store_of m.memory io) ≡ Raised c) → Does m end who a (Err (fault_of f))
mem_fails m end who a s (faults.Raise c) same raised = by_script m s (script_in m.memory.rows m who a) (Raised c) same (raised m.streams)
mem_fails m end who a s faults.NoMemory same raised = tt

-- ---- scripts by what operands give
pub place_same : (m : Machine) (o : Operand) (p : Pointer) (f : model.Pointer → Script Value) → Of m o pointer_of (pointer_at p) → IsGiven m o
    → f (pointer_at p) ≡ f (pointer_of (given_by m o))
place_same m o p f of given = ap f (given_as m o pointer_of (pointer_at p) of given)

pub copy_same : (m : Machine) (o : Operand) (v : Kept_value) (f : Value → Script Value) → ((h : Kept_value) → operand_in m o ≡ Some h → v ≡ h)
    → IsGiven m o → f (value_in m.memory v) ≡ f (given_by m o)
copy_same m o v f copy given = ap f (given_copy m o v copy given)

pub places_same : (m : Machine) (o r : Operand) (p q : Pointer) (f : model.Pointer → model.Pointer → Script Value) → Of m o pointer_of (pointer_at p)
    → Of m r pointer_of (pointer_at q) → IsGiven m o → IsGiven m r → f (pointer_at p) (pointer_at q) ≡ f (pointer_of (given_by m o)) (pointer_of (given_by m r))
places_same m o r p q f of1 of2 g1 g2 = ap₂ f (given_as m o pointer_of (pointer_at p) of1 g1) (given_as m r pointer_of (pointer_at q) of2 g2)

pub copy_made : (m : Machine) (o : Operand) (v : Kept_value) → ((h : Kept_value) → operand_in m o ≡ Some h → v ≡ h) → IsGiven m o → IsMadeValue m.memory v
copy_made m o v copy g = (copy_of m o v copy g).made

-- ---- a pointer as a value
pub pointer_is : (k : Kept) (p : Pointer) (h : Kept_value) → ((k : Kept) → value_in k h ≡ pointer_value (pointer_at p)) → IsMade k p.prov → IsOf k h
pointer_is k p h seen made = seen_pointer k k h (pointer_at p) (seen k) made

-- ---- rows stay where an act isn't done
pub rows_kept : (r : Result Outcome Fault) (old new : Kept) → Keeps old new → OnErr r (RowsStay old.rows new.rows)
rows_kept (Ok outcome) old new keeps = tt
rows_kept (Err e) old new keeps = keeps.rows

pub rows_same : (r : Result Outcome Fault) (m : Kept) → OnErr r (RowsStay m.rows m.rows)
rows_same (Ok outcome) m = tt
rows_same (Err e) m = λ x row at. at

-- where values alone have changed
pub rows_rest : (r : Result Outcome Fault) (old new : Machine) → new ≡ record old { values = new.values } → OnErr r (RowsStay old.memory.rows new.memory.rows)
rows_rest r old new rest = subst (λ (k : Kept). OnErr r (RowsStay old.memory.rows k.rows)) (sym (ap (λ (m : Machine). m.memory) rest)) (rows_same r old.memory)
