-- What the act of an event leaves in a machine, under the rows of a memory or of a world (own).
use Rattle.std.specs.Prelude.{◌≡◌, ◌≢◌, ◌+◌, ◌<◌, ◌≤◌, ℕ, Bool, true, false, List, [], length, slice_get, Option, Some, None, Result, Ok, Err}
use Rattle.std.specs.List.{All}
use Rattle.std.specs.Option.{ForSome}
use Rattle.ub_base.specs.declared.clause.Clause.{Clause}
use Rattle.ub_base.specs.declared.names.Event.{Event}
use Rattle.addr_map.specs.declared.map.Row.{Row}
use Rattle.c_typed.specs.Lawful.{ContentIsLawful}
use Rattle.mem_spec.specs.Script.{Script, Done, Raised, run}
use Rattle.mem_spec.specs.Store.{Store}
use Rattle.mem_laws.specs.MoreRows.{Extends}
use Rattle.mem_objects.specs.declared.value.Value.{Value as Kept_value}
use Rattle.mem_objects.specs.Keeps.{Keeps}
use Rattle.mem_objects.specs.Made.{IsMade}
use Rattle.mem_objects.specs.Memory.{store_of}
use Rattle.mem_objects.specs.Sound.{IsSound}
use Rattle.mem_objects.specs.Tags.{AreTagged}
use Rattle.c_model.specs.Nodes.{changed}
use Rattle.c_model.specs.Values.{Value, Nothing, integer_of}
use Rattle.run_values.specs.declared.values.Pointer.{Pointer as Place}
use Rattle.run_values.specs.Kept.{IsOf}
use Rattle.run_layout.specs.declared.steps.Act.{Act}
use Rattle.run_layout.specs.declared.steps.Act.TheVariants as act
use Rattle.run_state.specs.declared.machine.Machine.{Machine}
use Rattle.run_state.specs.Stands.{Holds, StandsTables}
use Rattle.run_answers.specs.declared.outcome.Outcome.{Outcome}
use Rattle.run_answers.specs.declared.outcome.Outcome.TheVariants as outcome
use Rattle.run_answers.specs.declared.fault.Fault.{Fault}
use Rattle.run_answers.specs.declared.fault.Fault.TheVariants as fault
use Rattle.run_answers.specs.Acts.{given_by, script_in}

-- memory is sound and has the types of its tags, and nothing was touched yet
pub record CanAct (m : Machine) : Type 0 where
  pub sound : IsSound m.memory
  pub tagged : AreTagged m.memory
  pub items : m.items ≡ []

-- the store that memory and streams are
abbrev pub store_in : Machine → Store
store_in m = store_of m.memory m.streams

-- the memory's rows are among these, and what the code names by number stands where the machine says; its constants are those of a lawful program
pub record CanPerform (rows : List Row) (m : Machine) : Type 0 where
  pub can : CanAct m
  pub extends : Extends m.memory.rows rows
  pub tables : StandsTables m
  pub constants : All (λ cs. All (λ c. ContentIsLawful m.program.now c.content) cs.now) m.image.code.now.tables.constants.items

-- an effect gives no value, and a body keeps its own
abbrev pub gives_value : Act → Bool
gives_value (act.Store n place value) = false
gives_value (act.Fill object n) = false
gives_value (act.Call n) = false
gives_value (act.Initialize n) = false
gives_value a = true

-- an act on pointers, or that of a node without a value
abbrev pub is_pointer_act : Act → Bool
is_pointer_act (act.Move size subtract pointer index) = true
is_pointer_act (act.Member offset pointer) = true
is_pointer_act (act.Distance size left right) = true
is_pointer_act (act.Related op pointers left right) = true
is_pointer_act (act.Equal op left right) = true
is_pointer_act act.Nothing = true
is_pointer_act a = false

-- 1. What changes.

-- nothing but memory and what was touched has changed
abbrev pub TouchesMemory : Machine → Machine → Type 0
TouchesMemory old new = new ≡ record old { memory = new.memory; items = new.items; spare = new.spare }

-- .. and values
abbrev pub TouchesValues : Machine → Machine → Type 0
TouchesValues old new = new ≡ record old { memory = new.memory; values = new.values; items = new.items; spare = new.spare }

-- the room, behind those of the nodes, in which an update keeps what it will store, where it gives the old value (6.5.2.4p2)
abbrev pub kept_room : Act → Option ℕ
kept_room (act.Change c true ty place o room) = Some room
kept_room a = None

-- nothing has changed but memory, what was touched, and the values in the rooms of the node and of an update; there are no fewer rooms
pub record ChangesOnly (old new : Machine) (node : ℕ) (a : Act) : Type 0 where
  pub rest : TouchesValues old new
  pub others : (j : ℕ) → j ≢ old.top.base + node → ForSome (kept_room a) (λ r. j ≢ old.top.base + r)
      → slice_get new.values.items j ≡ slice_get old.values.items j
  pub count : length old.values.items ≤ length new.values.items

-- 2. That it is done.

-- what an update that gives the old value will store is in its room, where there is one
abbrev pub HoldsUpdate : Machine → Machine → ℕ → Act → Value → Type 0
HoldsUpdate old new node (act.Change c true ty place o room) before =
    room ≢ node → old.top.base + room < length old.values.items
    → Holds new.memory new.values.items (old.top.base + room) (changed c before (integer_of (given_by old o)))
HoldsUpdate old new node a before = Unit {0}

-- The act is done, with this value, on the store that memory and streams are: it has its items and its store, the value stands in the room of its node,
-- where there is one, and the memory is kept.
pub record IsDone (rows : List Row) (old new : Machine) (who : Event) (a : Act) (v : Value) : Type 0 where
  pub did : run rows (script_in rows old who a) (store_in old) ≡ Done v new.items (store_in new)
  pub kept : Keeps old.memory new.memory
  pub value : gives_value a ≡ true → old.top.base + who.node < length old.values.items → Holds new.memory new.values.items (old.top.base + who.node) v
  pub update : HoldsUpdate old new who.node a v

-- it is done so, or raises its clause; there may always have been want of memory
abbrev pub Performs : List Row → Machine → Machine → Event → Act → Result Outcome Fault → Type 0
Performs rows old new who a (Ok outcome.Done) = (v : Value) × IsDone rows old new who a v
Performs rows old new who a (Ok _) = ⊥
Performs rows old new who a (Err (fault.Raise c)) = run rows (script_in rows old who a) (store_in old) ≡ Raised c
Performs rows old new who a (Err (fault.Over cause number)) = ⊥
Performs rows old new who a (Err fault.Unplaced) = ⊥
Performs rows old new who a (Err fault.NoMemory) = Unit {0}

-- under the rows of the memory
abbrev pub Does : Machine → Machine → Event → Act → Result Outcome Fault → Type 0
Does old new who a r = Performs old.memory.rows old new who a r

-- The effect is done as the script does it: without a value, with its items and its store, and the memory is kept; or it raises the script's clause.
abbrev pub Effects : Machine → Machine → Script Value → Result Outcome Fault → Type 0
Effects old new script (Ok outcome.Done) =
    (run old.memory.rows script (store_in old) ≡ Done Nothing new.items (store_in new)) × Keeps old.memory new.memory
Effects old new script (Ok _) = ⊥
Effects old new script (Err (fault.Raise c)) = run old.memory.rows script (store_in old) ≡ Raised c
Effects old new script (Err (fault.Over cause number)) = ⊥
Effects old new script (Err fault.Unplaced) = ⊥
Effects old new script (Err fault.NoMemory) = Unit {0}

-- 3. The store of a parameter.

-- Memory is sound, and its rows are among these; what the code names by number stands where the machine says; and what the place and the value name was
-- made in memory.
pub record CanPut (rows : List Row) (m : Machine) (p : Place) (v : Kept_value) : Type 0 where
  pub sound : IsSound m.memory
  pub extends : Extends m.memory.rows rows
  pub tables : StandsTables m
  pub place : IsMade m.memory p.prov
  pub value : IsOf m.memory v

-- The store is done as its script does it: without a value, with the items that `spare` has then, and its store; or it raises the script's clause.
abbrev pub Puts : List Row → Machine → Machine → Script Value → Result (Unit {0}) Clause → Type 0
Puts rows old new script (Ok done) = run rows script (store_in old) ≡ Done Nothing new.spare (store_in new)
Puts rows old new script (Err c) = run rows script (store_in old) ≡ Raised c

-- nothing but memory and `spare` has changed
abbrev pub TouchesSpare : Machine → Machine → Type 0
TouchesSpare old new = new ≡ record old { memory = new.memory; spare = new.spare }
