-- What stores and initializations do.
use Rattle.std.proofs.Common.{◌≡◌, ◌∙◌, ℕ, zero, suc, refl, sym, ap, subst, List, [], ◌∷◌, length, map, slice_get, Option, Some}
use Rattle.std.specs.Prelude.{Result, Ok, Err, OnErr}
use Rattle.std.specs.Borrow.{Bor}
use Rattle.ub_base.specs.declared.clause.Clause.{Clause}
use Rattle.ub_base.specs.declared.names.Item.{Item}
use Rattle.c_types.specs.Types.{CType, type_of}
use Rattle.c_typed.specs.declared.program.Constant.{Constant}
use Rattle.mem_spec.specs.Script.{Script, Done, Raised, run}
use Rattle.mem_spec.specs.Streams.{Io}
use Rattle.mem_objects.specs.declared.answer.MemFault.{MemFault}
use Rattle.mem_objects.specs.declared.answer.MemFault.TheVariants as faults
use Rattle.mem_objects.specs.declared.cell.Via.{Via}
use Rattle.mem_objects.specs.declared.value.Value.{Value as Kept_value}
use Rattle.mem_objects.specs.Keeps.{Keeps, IsNumbered, RowsStay}
use Rattle.mem_objects.specs.Loads.{IfRaise}
use Rattle.mem_objects.specs.Made.{IsMade}
use Rattle.mem_objects.specs.Memory.{Kept, store_of}
use Rattle.mem_objects.specs.Sound.{IsSound}
use Rattle.c_model.specs.Nodes.{fill, put}
use Rattle.c_model.specs.Program.{Filling as Filled}
use Rattle.c_model.specs.Values as model
use Rattle.c_model.specs.Values.{Value, Nothing, pointer_of}
use Rattle.run_values.specs.declared.filling.Filling.{Filling}
use Rattle.run_values.specs.declared.values.Pointer.{Pointer}
use Rattle.run_values.specs.Contents.{filled_by}
use Rattle.run_values.specs.Fills.{AreFillings}
use Rattle.run_values.specs.Kept.{IsOf, AreOf}
use Rattle.run_values.specs.Stores.{CanStore, SeesAs}
use Rattle.run_values.specs.Views.{value_in, pointer_at}
use Rattle.run_layout.specs.declared.steps.Operand.{Operand}
use Rattle.run_layout.specs.declared.steps.StoreCode.{StoreCode}
use Rattle.run_state.specs.declared.machine.Machine.{Machine}
use Rattle.run_state.specs.Operands.{operand_in}
use Rattle.run_state.specs.Stands.{AreBytes, AreEach, IsVia, StandsTables}
use Rattle.run_answers.specs.declared.outcome.Outcome.{Outcome}
use Rattle.run_answers.specs.declared.outcome.Outcome.TheVariants as outcome
use Rattle.run_answers.specs.declared.fault.Fault.{Fault}
use Rattle.run_answers.specs.declared.fault.Fault.TheVariants as fault
use Rattle.run_answers.specs.Acts.{filled_from, given_by, stored_by, IsGiven}
use Rattle.run_answers.specs.Performs.{store_in, CanAct, Effects}
use Rattle.run_answers.specs.Faults.{fault_of}
use Rattle.run_answers.proofs.Doing.{Of, cell_of, copy_of, given_as, given_copy, pointer_made, rows_kept}

-- ---- lists that go together
pub each_at : {A B : Type 0} (P : A → B → Type 0) (xs : List A) (ys : List B) (n : ℕ) (x : A) (y : B) → AreEach P xs ys → slice_get xs n ≡ Some x
    → slice_get ys n ≡ Some y → P x y
each_at P [] ys n x y are e f = absurd (cc)
each_at P (w ∷ ws) [] n x y are e f = absurd are
each_at {A} {B} P (w ∷ ws) (z ∷ zs) zero x y are e f =
    let a : w ≡ x = cc in
    let b : z ≡ y = cc in
    subst (λ (v : B). P x v) b (subst (λ (v : A). P v z) a are.0)
each_at P (w ∷ ws) (z ∷ zs) (suc n) x y are e f = each_at P ws zs n x y are.1 e f

each_first : {A B : Type 0} (P : A → B → Type 0) (xs : List A) (ys : List B) (n : ℕ) (y : B) → AreEach P xs ys → slice_get ys n ≡ Some y
    → (x : A) × (slice_get xs n ≡ Some x)
each_first P xs [] n y are f = absurd (cc)
each_first P [] (z ∷ zs) n y are f = absurd are
each_first P (w ∷ ws) (z ∷ zs) zero y are f = (w, refl)
each_first P (w ∷ ws) (z ∷ zs) (suc n) y are f = each_first P ws zs n y are.1 f

-- ---- a value in a room
pub room_copy : (v h : Kept_value) (n : ℕ) (xs : List Kept_value) → slice_get xs n ≡ Some v → slice_get xs n ≡ Some h → v ≡ h
room_copy v h n xs there e = let t : Some v ≡ Some h = sym there ∙ e in cc

-- ---- a store
module _ (m : Machine) (number : ℕ) (s : StoreCode) (via : Via) (p : Pointer) (v : Kept_value) (o : Operand) (new : Kept) (t : List Item)
    (can : CanAct m) (tables : StandsTables m) (store_there : slice_get m.image.code.now.tables.stores.items number ≡ Some s)
    (via_there : slice_get m.image.vias.items number ≡ Some via) (made : IsMade m.memory p.prov) (given : IsGiven m o)
    (same : (h : Kept_value) → operand_in m o ≡ Some h → v ≡ h) where
  value_is : value_in m.memory v ≡ given_by m o
  value_is = given_copy m o v same given

  value_of : IsOf m.memory v
  value_of = copy_of m o v same given

  is_via : IsVia m.memory s via
  is_via = each_at (IsVia m.memory) m.image.code.now.tables.stores.items m.image.vias.items number s via tables.vias store_there via_there

  can_store : CanStore m.memory p v
  can_store = record { cell = cell_of m.memory p.prov made; named = can.sound.named; made = value_of.made }

  abbrev script : Script Value
  script = put m.memory.rows s.initializing s.access (type_of s.ty.now) (pointer_at p) (value_in m.memory v)

  script_is : run m.memory.rows (stored_by m.memory.rows (slice_get m.image.code.now.tables.stores.items number) (pointer_at p) (given_by m o)) (store_in m)
      ≡ run m.memory.rows script (store_in m)
  script_is =
      ap (λ (so : Option StoreCode). run m.memory.rows (stored_by m.memory.rows so (pointer_at p) (given_by m o)) (store_in m)) store_there
      ∙ ap (λ (w : Value). run m.memory.rows (put m.memory.rows s.initializing s.access (type_of s.ty.now) (pointer_at p) w) (store_in m)) (sym value_is)

  pub store_done : (CanStore m.memory p v → (ty : CType) → SeesAs m.memory via s.access ty → (io : Io)
      → run m.memory.rows (put m.memory.rows s.initializing s.access ty (pointer_at p) (value_in m.memory v)) (store_of m.memory io)
      ≡ Done Nothing t (store_of new io))
      → (IsNumbered (length m.memory.types) via → IsSound m.memory → IsOf m.memory v → Keeps m.memory new)
      → Effects m (record m { memory = new; items = t })
      (stored_by m.memory.rows (slice_get m.image.code.now.tables.stores.items number) (pointer_at p) (given_by m o)) (Ok outcome.Done)
  store_done exact keeps =
      (script_is ∙ exact can_store (type_of s.ty.now) is_via.0 m.streams, keeps is_via.1 can.sound value_of)

  pub store_raised : (c : Clause) (e : Fault) (end : Machine) → e ≡ fault.Raise c → (CanStore m.memory p v → (ty : CType)
      → SeesAs m.memory via s.access ty → (io : Io)
      → run m.memory.rows (put m.memory.rows s.initializing s.access ty (pointer_at p) (value_in m.memory v)) (store_of m.memory io) ≡ Raised c)
      → Effects m end (stored_by m.memory.rows (slice_get m.image.code.now.tables.stores.items number) (pointer_at p) (given_by m o)) (Err e)
  store_raised c e end is raised =
      subst (λ (f : Fault). Effects m end
      (stored_by m.memory.rows (slice_get m.image.code.now.tables.stores.items number) (pointer_at p) (given_by m o)) (Err f)) (sym is)
      (script_is ∙ raised can_store (type_of s.ty.now) is_via.0 m.streams)

  pub store_rows : (r : Result Outcome Fault) → (IsNumbered (length m.memory.types) via → IsSound m.memory → IsOf m.memory v → Keeps m.memory new)
      → OnErr r (RowsStay m.memory.rows new.rows)
  store_rows r keeps = rows_kept r m.memory new (keeps is_via.1 can.sound value_of)

-- the place that an operand gives
pub stored_at : (old new : Machine) (s : Option StoreCode) (place value : Operand) (p : Pointer) (r : Result Outcome Fault)
    → Of old place pointer_of (pointer_at p) → IsGiven old place
    → (IsMade old.memory p.prov → Effects old new (stored_by old.memory.rows s (pointer_at p) (given_by old value)) r)
    → Effects old new (stored_by old.memory.rows s (pointer_of (given_by old place)) (given_by old value)) r
stored_at old new s place value p r is given does =
    subst (λ (q : model.Pointer). Effects old new (stored_by old.memory.rows s q (given_by old value)) r)
    (given_as old place pointer_of (pointer_at p) is given) (does (pointer_made old place p is given))

-- ---- an initialization
module _ (m : Machine) (number : ℕ) (fs : List Filling) (o : Operand) (p : Pointer) (new : Kept) (t spare : List Item) (can : CanAct m)
    (tables : StandsTables m) (there : slice_get m.image.fillings.items number ≡ Some fs) (place : Of m o pointer_of (pointer_at p)) (given : IsGiven m o) where
  constants : (cs : Bor (List Constant)) × (slice_get m.image.code.now.tables.constants.items number ≡ Some cs)
  constants = each_first (AreBytes m.memory) m.image.code.now.tables.constants.items m.image.fillings.items number fs tables.fillings there

  are_bytes : AreBytes m.memory constants.0 fs
  are_bytes =
      each_at (AreBytes m.memory) m.image.code.now.tables.constants.items m.image.fillings.items number constants.0 fs tables.fillings constants.1 there

  object_made : IsMade m.memory p.prov
  object_made = pointer_made m o p place given

  filling_is : run m.memory.rows (filled_from m.memory.rows (slice_get m.image.code.now.tables.constants.items number) (pointer_of (given_by m o))) (store_in m)
      ≡ run m.memory.rows (fill m.memory.rows (pointer_at p) (map filled_by constants.0.now)) (store_in m)
  filling_is =
      ap (λ (cs : Option (Bor (List Constant))). run m.memory.rows (filled_from m.memory.rows cs (pointer_of (given_by m o))) (store_in m)) constants.1
      ∙ ap (λ (q : model.Pointer). run m.memory.rows (fill m.memory.rows q (map filled_by constants.0.now)) (store_in m))
      (sym (given_as m o pointer_of (pointer_at p) place given))

  pub fill_done : (IsMade m.memory p.prov → (cs : List Filled) → AreFillings m.memory fs cs → (io : Io)
      → run m.memory.rows (fill m.memory.rows (pointer_at p) cs) (store_of m.memory io) ≡ Done Nothing t (store_of new io))
      → (AreOf m.memory fs → Keeps m.memory new)
      → Effects m (record m { memory = new; items = t; spare = spare })
      (filled_from m.memory.rows (slice_get m.image.code.now.tables.constants.items number) (pointer_of (given_by m o))) (Ok outcome.Done)
  fill_done exact keeps =
      (filling_is ∙ exact object_made (map filled_by constants.0.now) are_bytes.0 m.streams, keeps are_bytes.1)

  pub fill_failed : (f : MemFault) (e : Fault) (end : Machine) → e ≡ fault_of f → IfRaise f (λ c. IsMade m.memory p.prov → (cs : List Filled)
      → AreFillings m.memory fs cs → (io : Io)
      → run m.memory.rows (fill m.memory.rows (pointer_at p) cs) (store_of m.memory io) ≡ Raised c)
      → Effects m end (filled_from m.memory.rows (slice_get m.image.code.now.tables.constants.items number) (pointer_of (given_by m o))) (Err e)
  fill_failed (faults.Raise c) e end is raised =
      subst (λ (f : Fault). Effects m end
      (filled_from m.memory.rows (slice_get m.image.code.now.tables.constants.items number) (pointer_of (given_by m o))) (Err f)) (sym is)
      (filling_is ∙ raised object_made (map filled_by constants.0.now) are_bytes.0 m.streams)
  fill_failed faults.NoMemory e end is raised =
      subst (λ (f : Fault). Effects m end
      (filled_from m.memory.rows (slice_get m.image.code.now.tables.constants.items number) (pointer_of (given_by m o))) (Err f)) (sym is) tt

  pub fill_rows : (r : Result Outcome Fault) → (AreOf m.memory fs → Keeps m.memory new) → OnErr r (RowsStay m.memory.rows new.rows)
  fill_rows r keeps = rows_kept r m.memory new (keeps are_bytes.1)
