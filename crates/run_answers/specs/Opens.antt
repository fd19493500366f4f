-- What a body leaves that starts a frame: the frame is the top one, on the one that was (6.7.9p23).
use Rattle.std.specs.Prelude.{◌≡◌, ℕ, ◌+◌, ◌-◌, ◌^◌, ◌<◌, ◌≤◌, min, List, [], ◌∷◌, ◌++◌, length, slice_get, Option, Some, None, Result, Ok, Err}
use Rattle.std.specs.Borrow.{Bor}
use Rattle.ub_base.specs.declared.clause.Cause.TheVariants.{Depth}
use Rattle.ub_base.specs.declared.names.Event.{Event}
use Rattle.mem_objects.specs.declared.value.Value.{Value as Kept_value}
use Rattle.run_control.specs.declared.statement.Statement.{Statement}
use Rattle.run_control.specs.declared.work.Use.TheVariants.{Unused}
use Rattle.run_control.specs.declared.work.Work.TheVariants as work
use Rattle.run_layout.specs.declared.steps.Act.{Act}
use Rattle.run_layout.specs.declared.steps.Act.TheVariants as act
use Rattle.run_layout.specs.declared.steps.FunctionCode.{FunctionCode}
use Rattle.run_layout.specs.declared.steps.Operand.{Operand}
use Rattle.run_layout.specs.declared.steps.Operand.TheVariants as operand
use Rattle.run_layout.specs.declared.steps.Range.{Range}
use Rattle.run_state.specs.declared.machine.Local.{Local}
use Rattle.run_state.specs.declared.machine.Machine.{Machine}
use Rattle.run_state.specs.declared.machine.Open.{Open}
use Rattle.run_state.specs.Operands.{operand_in}
use Rattle.run_answers.specs.declared.outcome.Outcome.{Outcome}
use Rattle.run_answers.specs.declared.outcome.Outcome.TheVariants as outcome
use Rattle.run_answers.specs.declared.fault.Fault.{Fault}
use Rattle.run_answers.specs.declared.fault.Fault.TheVariants as fault

-- 1. The frame of an isolated initializer.

-- The frame that the event starts on this one: its rooms begin behind those of that one, and it has none yet. It bears the number of that one until it is
-- given its own.
abbrev pub started_on : Open → Event → (function : Option ℕ) → (blocks : ℕ) → (expressions : Range) → (locals above : ℕ) → Open
started_on below event function blocks expressions locals above = record {
  frame = event.frame;
  turn = 0;
  stage = None;
  how = Unused;
  base = min (below.base + below.rooms) (2 ^ 64 - 1);
  rooms = 0;
  locals = locals;
  above = above;
  function = function;
  blocks = blocks;
  expressions = expressions;
  node = event.node;
}

-- this frame is the top one, on the one that was; nothing else has changed
pub record IsOnTop (old : Machine) (top : Open) (new : Machine) : Type 0 where
  pub rest : new ≡ record old { below = new.below; top = top }
  pub below : new.below.items ≡ old.below.items ++ old.top ∷ []

-- The frame of an isolated initializer has started: it is to begin the full expression of this number in the code, and sees the objects of the frame below.
pub record StartsInitializer (old : Machine) (number : ℕ) (event : Event) (new : Machine) : Type 0 where
  pub rest : new ≡ record old {
    below = new.below;
    top = started_on old.top event None old.top.blocks old.top.expressions old.top.locals old.top.above;
    work = new.work;
  }
  pub below : new.below.items ≡ old.below.items ++ old.top ∷ []
  pub left : new.work ≡ record { below = old.work.now ∷ old.work.below; now = work.Begin number ∷ [] }

-- it has; there may be want of memory
abbrev pub OpensInitializer : Machine → ℕ → Event → Machine → Result Outcome Fault → Type 0
OpensInitializer old number event new (Ok outcome.Started) = StartsInitializer old number event new
OpensInitializer old number event new (Ok outcome.Done) = ⊥
OpensInitializer old number event new (Ok (outcome.End status)) = ⊥
OpensInitializer old number event new (Err fault.NoMemory) = Unit {0}
OpensInitializer old number event new (Err fault.Unplaced) = ⊥
OpensInitializer old number event new (Err (fault.Raise clause)) = ⊥
OpensInitializer old number event new (Err (fault.Over cause reached)) = ⊥

-- 2. The frame of a function.

-- the value of an operand stands before this room, where it is that of a node
abbrev pub IsBefore : (base room : ℕ) → Operand → Type 0
IsBefore base room (operand.Done node) = base + node < room
IsBefore base room o = Unit {0}

-- The values of so many first ones of these operands stand in the rooms from this one on, the next of which is known, and all of which are there. What
-- stood before them stays, and there are no fewer rooms.
pub record HasPassed (old : Machine) (os : List Operand) (room k next : ℕ) (new : Machine) : Type 0 where
  pub comes : next ≡ room + k
  pub there : room + length os ≤ length new.values.items
  pub fewest : length old.values.items ≤ length new.values.items
  pub before : (j : ℕ) (h : Kept_value) → j < room → slice_get old.values.items j ≡ Some h → slice_get new.values.items j ≡ Some h
  pub passed : (i : ℕ) (o : Operand) (h : Kept_value) → i < k → slice_get os i ≡ Some o → IsBefore old.top.base room o → operand_in old o ≡ Some h
      → slice_get new.values.items (room + i) ≡ Some h

-- rooms have places below 2^64
abbrev pub PassesFirst : Machine → List Operand → (room k next : ℕ) → Machine → Type 0
PassesFirst old os room k next new = room + length os < 2 ^ 64 → HasPassed old os room k next new

abbrev pub Passes : Machine → List Operand → (room : ℕ) → Machine → Type 0
Passes old os room new = PassesFirst old os room (length os) (room + length os) new

-- The function's frame is on top: its body is to be done, and its objects stand behind those of the frame below, which stay. There are places for them.
pub record OpensFrame (old : Machine) (number : ℕ) (event : Event) (new : Machine) : Type 0 where
  pub code : FunctionCode
  pub body : Bor Statement
  pub there : slice_get old.image.code.now.functions.items number ≡ Some (Some code)
  pub same : body.now ≡ code.body
  pub rest : new ≡ record old {
    below = new.below;
    top = started_on old.top event (Some number) code.blocks code.expressions old.top.above (min (old.top.above + code.objects) (2 ^ 64 - 1));
    work = new.work;
    locals = new.locals;
  }
  pub below : new.below.items ≡ old.below.items ++ old.top ∷ []
  pub left : new.work ≡ record { below = old.work.now ∷ old.work.below; now = work.ToDo body ∷ [] }
  pub locals : (j : ℕ) (l : Local) → slice_get old.locals.items j ≡ Some l → slice_get new.locals.items j ≡ Some l
  pub places : old.top.above + code.objects ≤ length new.locals.items
  pub fewest : length old.locals.items ≤ length new.locals.items

-- The function's frame has started, one of so many, with the arguments in its first rooms (6.5.2.2p4, p10).
pub record StartsFunction (old : Machine) (number : ℕ) (os : List Operand) (event : Event) (new : Machine) : Type 0 where
  pub passed : Machine
  pub opened : Machine
  pub rest : passed ≡ record old { values = passed.values }
  pub passes : Passes old os (min (old.top.base + old.top.rooms) (2 ^ 64 - 1)) passed
  pub opens : OpensFrame passed number event opened
  pub few : old.depth < 100000
  pub counted : new ≡ record opened { depth = old.depth + 1 }

-- So it has where fewer than 100,000 frames of functions are open; otherwise the limit is passed, with the number that would be reached (own), and the
-- memory stays. There may be want of memory.
abbrev pub OpensFunction : Machine → ℕ → List Operand → Event → Machine → Result Outcome Fault → Type 0
OpensFunction old number os event new (Ok outcome.Started) = StartsFunction old number os event new
OpensFunction old number os event new (Ok outcome.Done) = ⊥
OpensFunction old number os event new (Ok (outcome.End status)) = ⊥
OpensFunction old number os event new (Err fault.NoMemory) = Unit {0}
OpensFunction old number os event new (Err fault.Unplaced) = ⊥
OpensFunction old number os event new (Err (fault.Raise clause)) = ⊥
OpensFunction old number os event new (Err (fault.Over cause reached)) =
    (cause ≡ Depth) × (reached ≡ min (old.depth + 1) (2 ^ 64 - 1)) × (100000 ≤ old.depth) × (new.memory ≡ old.memory)

-- 3. A body.

-- what the body of an isolated initializer leaves
abbrev pub Opens : Machine → Act → Event → Machine → Result Outcome Fault → Type 0
Opens old (act.Initialize number) event new result = OpensInitializer old number event new result
Opens old a event new result = Unit {0}
