-- What a control step does to the machine, whatever state it stands for (own).
use Rattle.std.specs.Prelude.{◌≡◌, ◌≢◌, ◌⊎◌, ℕ, ◌+◌, ◌≤◌, true, List, [], ◌∷◌, ◌++◌, length, slice_get, Option, Some, None, Result, Ok, Err}
use Rattle.mem_objects.specs.declared.value.Value.{Value as Kept_value}
use Rattle.seq_order.specs.Marked.{taken_in}
use Rattle.run_control.specs.declared.work.Use.{Use}
use Rattle.run_control.specs.declared.work.Use.TheVariants as for_use
use Rattle.run_layout.specs.declared.steps.Expression.{Expression}
use Rattle.run_layout.specs.declared.steps.Operand.{Operand}
use Rattle.run_layout.specs.Chosen.{with_chosen}
use Rattle.run_layout.specs.InRange.{part_of}
use Rattle.run_state.specs.declared.halt.Halt.{Halt}
use Rattle.run_state.specs.declared.machine.Machine.{Machine}
use Rattle.run_state.specs.declared.machine.Open.{Open}
use Rattle.run_state.specs.declared.machine.Stage.{Stage}
use Rattle.run_state.specs.declared.watch.Begun.{Begun}
use Rattle.run_state.specs.Operands.{operand_in}
use Rattle.run_answers.specs.declared.pick.Pick.{Pick}
use Rattle.run_answers.specs.declared.pick.Pick.TheVariants as pick
use Rattle.run_answers.specs.Beginning.{IsAmong}
use Rattle.run_answers.specs.Ending.{depth_without}
use Rattle.run_answers.specs.Picks.{top_of}

-- 1. No frame starts or ends.

-- The top frame keeps its number, where its values and its objects stand, its function, and the node that started it; only its turn and its full expression
-- may be others.
abbrev pub frame_with : (old new : Open) → Open
frame_with old new = record old { turn = new.turn; stage = new.stage; how = new.how; rooms = new.rooms }

-- The frames below it stay as they are, and so do the program, the code with its tables, the streams, and what was noted of other orders.
abbrev pub machine_with : (old new : Machine) → Machine
machine_with old new = record old {
  memory = new.memory;
  top = frame_with old.top new.top;
  work = new.work;
  entered = new.entered;
  begun = new.begun;
  values = new.values;
  locals = new.locals;
  left = new.left;
  items = new.items;
  spare = new.spare;
}

-- So it is with a machine whose frames are kept: the turn is at most the next one, full expressions of the frames below stay, and there are no fewer rooms for
-- values, and no fewer places of objects.
pub record KeepsFrames (old new : Machine) : Type 0 where
  pub rest : new ≡ machine_with old new
  pub turn : new.top.turn ≤ old.top.turn + 1
  pub begun : (j : ℕ) (b : Begun) → j ≢ length old.below.items → slice_get old.begun.items j ≡ Some b → slice_get new.begun.items j ≡ Some b
  pub values : length old.values.items ≤ length new.values.items
  pub locals : length old.locals.items ≤ length new.locals.items

-- 2. The result of the top frame.

-- what it is once the value of the operand was used: that value, of the expression of a `return` statement; else what it was (6.8.6.4p3)
abbrev pub ResultBehind : (old : Machine) → Operand → Use → Option Kept_value → Type 0
ResultBehind old o for_use.Result left = (h : Kept_value) × (left ≡ Some h) × ((g : Kept_value) → operand_in old o ≡ Some g → h ≡ g)
ResultBehind old o how left = left ≡ old.left

-- .. where a full expression was open, and is settled
abbrev pub ResultAfter : (old : Machine) → Option Stage → Option Kept_value → Type 0
ResultAfter old None left = left ≡ old.left
ResultAfter old (Some s) left = ResultBehind old s.value old.top.how left

-- 3. The three ways on.

-- the frame goes on without an open full expression
pub record StaysClosed (old new : Machine) : Type 0 where
  pub keeps : KeepsFrames old new
  pub stage : new.top.stage ≡ None
  pub result : ResultAfter old old.top.stage new.left

-- where a full expression of this number begins: at the first entry of its listing, with no event taken
abbrev pub first_stage : ℕ → Expression → Stage
first_stage number laid =
    record { expression = number; first = laid.first; cursor = laid.first; end = laid.end; straight = true; value = laid.value }

-- A full expression of the function whose objects the top frame sees began in it, where none was open (6.8p4). There are rooms for its
-- values. It is shown above those of the frames below (`BelowIsShown`), with just the operands chosen that are chosen at once.
pub record BeginsExpression (old new : Machine) : Type 0 where
  pub keeps : KeepsFrames old new
  pub closed : old.top.stage ≡ None
  pub number : ℕ
  pub laid : Expression
  pub at : slice_get old.image.code.now.expressions.items number ≡ Some laid
  pub own : IsAmong old.top.expressions number
  pub stage : new.top.stage ≡ Some (first_stage number laid)
  pub many : new.top.rooms ≡ laid.rooms
  pub rooms : new.top.base + laid.rooms ≤ length new.values.items
  pub shown : length old.below.items ≤ length old.begun.items → (choices : List (Option ℕ))
      × (top_of new ≡ Some (record { frame = new.top.frame; turn = new.top.turn; tree = number; root = laid.root; taken = choices }))
      × ((k : ℕ) → taken_in choices k ≡ with_chosen (part_of new.image.code.now.tables.chosen.items laid.chosen) (taken_in []) k)
  pub left : new.left ≡ old.left

-- The top frame ended, and the one below it goes on at the stage at which it waited (6.8.6.4p1, 6.9.1p12). It has no result yet. Full expressions and objects
-- stay, and there are as many rooms for values.
pub record EndsTop (old new : Machine) : Type 0 where
  pub onto : Open
  pub below : old.below.items ≡ new.below.items ++ onto ∷ []
  pub rest : new ≡ record old {
    memory = new.memory;
    below = new.below;
    top = onto;
    work = new.work;
    depth = depth_without old.top.function old.depth;
    strayed = new.strayed;
    values = new.values;
    left = None;
    items = new.items;
    spare = new.spare;
  }
  pub values : length new.values.items ≡ length old.values.items

pub data KeepsStep (old new : Machine) : Type 0 where
  stays : StaysClosed old new → KeepsStep old new
  begins : BeginsExpression old new → KeepsStep old new
  ends : EndsTop old new → KeepsStep old new

-- 4. What is answered.

-- a control step behind which the run goes on
abbrev pub KeepsControl : (old new : Machine) → Result (Option ℕ) Halt → Type 0
KeepsControl old new (Ok None) = KeepsStep old new
KeepsControl old new (Ok (Some status)) = Unit {0}
KeepsControl old new (Err halt) = Unit {0}

-- a pick that is one
abbrev pub KeepsPick : (old new : Machine) → Result Pick Halt → Type 0
KeepsPick old new (Ok (pick.Step None)) = KeepsStep old new
KeepsPick old new (Ok (pick.Step (Some status))) = Unit {0}
KeepsPick old new (Ok (pick.Starts event)) = Unit {0}
KeepsPick old new (Ok (pick.Event event completed status)) = Unit {0}
KeepsPick old new (Err halt) = Unit {0}

-- 5. The calls of which a step consists.

-- the frame goes on with what is left to do, or ends
abbrev pub GoesFurther : (old new : Machine) → Result (Option ℕ) Halt → Type 0
GoesFurther old new (Ok None) = (new ≡ record old { work = new.work }) ⊎ EndsTop old new
GoesFurther old new (Ok (Some status)) = Unit {0}
GoesFurther old new (Err halt) = Unit {0}

-- objects are created, and take arguments: nothing else has changed, and there are no fewer rooms and places
pub record FillsObjects (old new : Machine) : Type 0 where
  pub rest : new ≡ record old { memory = new.memory; values = new.values; locals = new.locals; items = new.items; spare = new.spare }
  pub values : length old.values.items ≤ length new.values.items
  pub locals : length old.locals.items ≤ length new.locals.items

-- nothing has changed but what a step changes that opens and settles no full expression
pub record StaysSo (old new : Machine) : Type 0 where
  pub keeps : KeepsFrames old new
  pub stage : new.top.stage ≡ old.top.stage
  pub left : new.left ≡ old.left
