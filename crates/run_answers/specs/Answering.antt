-- What control steps come to is what the control steps of the definitions come to (own).
use Rattle.std.specs.Prelude.{◌≡◌, ℕ, ◌+◌, ◌<◌, ◌^◌, true, List, [], ◌∷◌, length, map, slice_get, is_some, Option, Some, None, Result, Ok, Err}
use Rattle.ub_base.specs.declared.names.Item.{Item}
use Rattle.ub_base.specs.declared.names.ObjName.{ObjName}
use Rattle.addr_map.specs.Rows.{row_of}
use Rattle.mem_objects.specs.Keeps.{RowsStay}
use Rattle.c_model.specs.Control.{Todo, Begin, Enter, Leave, Unwrite, Nothing_to_do, Go_to, Go_out, Go_on, Go_back, ready_work}
use Rattle.c_model.specs.Program.{Decl}
use Rattle.c_model.specs.OpenBlocks.{Closes, NoEntersBehind}
use Rattle.c_model.specs.Steps.{Begun, Control, Local, MayPick}
use Rattle.c_model.specs.World.{World}
use Rattle.c_model.specs.Runs.{Entry, Outcome, Raises, Over, No_row, Ends, Running, State, depth_of, limit_passed, step}
use Rattle.run_control.specs.declared.work.Step.{Step}
use Rattle.run_control.specs.declared.work.Step.TheVariants as taking
use Rattle.run_control.specs.declared.moves.Move.{Move}
use Rattle.run_control.specs.declared.moves.Move.TheVariants.{Out, On, Back}
use Rattle.run_control.specs.declared.work.Work.{Work}
use Rattle.run_control.specs.View.{Meaning, step_of, todo_of}
use Rattle.run_layout.specs.declared.steps.BlockCode.{BlockCode}
use Rattle.run_layout.specs.declared.whole.Code.{Code}
use Rattle.run_statements.specs.declared.jumps.Jumps.{Jumps}
use Rattle.run_state.specs.declared.halt.Halt.{Halt}
use Rattle.run_state.specs.declared.halt.Halt.TheVariants as halt
use Rattle.run_state.specs.declared.machine.Machine.{Machine}
use Rattle.run_state.specs.declared.machine.Open.{Open}
use Rattle.run_state.specs.Stands.{Stands}
use Rattle.run_answers.specs.Beginning.{CanBegin}
use Rattle.run_answers.specs.declared.pick.Pick.{Pick}
use Rattle.run_answers.specs.declared.pick.Pick.TheVariants as pick
use Rattle.run_answers.specs.Ending.{CanEnd, is_last}
use Rattle.run_answers.specs.Jumps.{HasLabels}
use Rattle.run_answers.specs.Settling.{CanSettle}
use Rattle.run_answers.specs.Entering.{CanEnterFirst}

-- 1. What a step comes to.

-- no limit is passed: so it is in each state of a run behind its start
abbrev pub IsWithin : World → State → Type 0
IsWithin world st = limit_passed world.limits (depth_of st.top st.held) st.store ≡ None

-- the items of the newest pick
abbrev pub newest_items : List Entry → List Item
newest_items [] = []
newest_items (e ∷ es) = e.items

-- The machine goes on, as a state of the definitions for which it stands, and has the items of the pick; or the run ends with this status, with what was
-- written so far. The world has the rows that the machine then has.
abbrev pub ComesTo : World → (Option ℕ → Meaning) → Option ℕ → Machine → Outcome → Type 0
ComesTo world meaning None m o =
    RowsStay m.memory.rows world.rows → (st : State) × (o ≡ Running st) × (newest_items st.trace ≡ m.items) × Stands world meaning m st
ComesTo world meaning (Some status) m o = (trace : List Entry) × (o ≡ Ends status m.streams.output trace) × (newest_items trace ≡ m.items)

-- What is answered to a step: that it was taken, with the status of a run that it ends, or that it raises a clause, passes a limit with the number that
-- would be reached, or needs a row that isn't there, where the world has just the rows of the machine. Want of memory may come at any time.
abbrev pub Answers : World → (Option ℕ → Meaning) → Result (Option ℕ) Halt → Machine → Outcome → Type 0
Answers world meaning (Ok status) m o = ComesTo world meaning status m o
Answers world meaning (Err (halt.Raised event line clause)) m o = (trace : List Entry) × (o ≡ Raises clause trace)
Answers world meaning (Err (halt.Over cause number)) m o = o ≡ Over cause number
Answers world meaning (Err halt.Unplaced) m o = ((x : ObjName) → row_of world.rows x ≡ row_of m.memory.rows x) → o ≡ No_row
Answers world meaning (Err halt.NoMemory) m o = Unit {0}

-- 2. Control steps.

-- A declaration: the blocks that are open are those that what is left to do leaves, and behind the next control step none is entered; so it is in each
-- frame of a run but behind a jump into blocks (`law_open_blocks` of c_model).
pub record HasOpenBlocks (f : Local) : Type 0 where
  pub closes : Closes (ready_work f.todo) (map (λ b. b.0) f.scene.blocks)
  pub behind : NoEntersBehind (ready_work f.todo)

-- the object of this number is one of the innermost open block; numbers of blocks and of objects are below 2^32, and places of objects below 2^64
abbrev pub IsDeclared : Code → Open → ℕ → List (ℕ × ℕ) → Type 0
IsDeclared code o d [] = ⊥
IsDeclared code o d (b ∷ bs) =
    (c : BlockCode) → slice_get code.tables.blocks.items (o.blocks + b.0) ≡ Some c
    → (o.blocks + b.0 < 2 ^ 32) × (d < c.objects.count) × (c.first + d < 2 ^ 32) × (o.locals + (c.first + d) < 2 ^ 64)

-- The leave of a block in a function's frame: the blocks that are open are those that what is left to do leaves; and the code has as
-- many objects of the block as the definitions, with numbers below 2^32, and places of objects below 2^64.
pub record HasObjects (o : Open) (b : ℕ) (c : BlockCode) (ds : List Decl) : Type 0 where
  pub block : o.blocks + b < 2 ^ 32
  pub count : c.objects.count ≡ length ds
  pub within : (k : ℕ) → k < c.objects.count → (c.first + k < 2 ^ 32) × (o.locals + (c.first + k) < 2 ^ 64)

pub record IsLeft (code : Code) (o : Open) (st : State) (b : ℕ) (ds : List Decl) (rest : Todo) : Type 0 where
  pub function : is_some o.function ≡ true
  pub closes : Closes (ready_work st.top.todo) (map (λ k. k.0) st.top.scene.blocks)
  pub objects : (c : BlockCode) → slice_get code.tables.blocks.items (o.blocks + b) ≡ Some c → HasObjects o b c ds

-- What is asked of a machine, and of the state that it stands for, for the control step that comes next: nothing for `break`, `continue` and `return`, and
-- where nothing is done. What is asked where a block is entered stands beside.
abbrev pub CanTake : World → Code → Jumps → Open → State → Todo → Type 0
CanTake world code jumps o st (Nothing_to_do ∷ rest) = Unit {0}
CanTake world code jumps o st (Go_out ∷ rest) = Unit {0}
CanTake world code jumps o st (Go_on ∷ rest) = Unit {0}
CanTake world code jumps o st (Go_back ∷ rest) = Unit {0}
CanTake world code jumps o st (Go_to k ∷ rest) = HasLabels code jumps o.function
CanTake world code jumps o st (Unwrite d ∷ rest) = HasOpenBlocks st.top × IsDeclared code o d st.top.scene.blocks
CanTake world code jumps o st (Leave b ds ∷ rest) = IsLeft code o st b ds rest
CanTake world code jumps o st (Enter b ds ∷ rest) = Unit {0}
CanTake world code jumps o st (Begin e what ∷ rest) = CanBegin world code o st e
CanTake world code jumps o st _ = ⊥

-- Where no full expression is open in the top frame, the machine can take the step, enter the block that comes next, and end the frame where it ends with
-- the step; else it can settle what is open.
pub record CanStep (world : World) (m : Machine) (st : State) : Type 0 where
  pub takes : CanTake world m.image.code.now m.jumps m.top st (ready_work st.top.todo)
  pub enters : CanEnterFirst world m st (ready_work st.top.todo)
  pub ends : is_last (ready_work st.top.todo) ≡ true → CanEnd m st

abbrev pub CanGoOn : World → Machine → State → Option Begun → Type 0
CanGoOn world m st None = CanStep world m st
CanGoOn world m st (Some e) = CanSettle world m st e

-- The state is within the limits, the control step may be picked in it, and the machine can take it.
pub record MayGoOn (world : World) (m : Machine) (st : State) : Type 0 where
  pub within : IsWithin world st
  pub control : MayPick world st.top st.top.begun Control
  pub can : CanGoOn world m st st.top.begun

-- a control step from a machine that has touched nothing yet
abbrev pub AnswersControl : (old new : Machine) → Result (Option ℕ) Halt → Type 0
AnswersControl old new result =
    (world : World) (meaning : Option ℕ → Meaning) (st : State) → Stands world meaning old st → MayGoOn world old st → old.items ≡ []
    → Answers world meaning result new (step world st Control)

-- a pick that is a control step
abbrev pub AnswersPick : World → (Option ℕ → Meaning) → Result Pick Halt → Machine → Outcome → Type 0
AnswersPick world meaning (Ok (pick.Step status)) m o = ComesTo world meaning status m o
AnswersPick world meaning (Ok (pick.Starts event)) m o = ⊥
AnswersPick world meaning (Ok (pick.Event event completed status)) m o = ⊥
AnswersPick world meaning (Err e) m o = Answers world meaning (Err e) m o

abbrev pub TakesControl : (old new : Machine) → Result Pick Halt → Type 0
TakesControl old new result =
    (world : World) (meaning : Option ℕ → Meaning) (st : State) → Stands world meaning old st → MayGoOn world old st → old.items ≡ []
    → AnswersPick world meaning result new (step world st Control)

-- .. of a machine that clears what it has touched before
abbrev pub AnswersCanonical : (old new : Machine) → Result Pick Halt → Type 0
AnswersCanonical old new result =
    (world : World) (meaning : Option ℕ → Meaning) (st : State) → Stands world meaning old st → MayGoOn world old st
    → AnswersPick world meaning result new (step world st Control)

-- Of a step that was taken off what is left to do, before anything else was done: before, the machine stood for the state.
abbrev pub as_before : Machine → List Work → Machine
as_before m before = record m { work = record { below = m.work.below; now = before } }

pub record HasTaken (world : World) (meaning : Option ℕ → Meaning) (s : Step) (m : Machine) (st : State) : Type 0 where
  pub before : List Work
  pub stands : Stands world meaning (as_before m before) st
  pub next : step_of (meaning m.top.function) s ∷ todo_of (meaning m.top.function) m.work.now ≡ ready_work (todo_of (meaning m.top.function) before)
  pub within : IsWithin world st
  pub closed : st.top.begun ≡ None
  pub can : CanTake world m.image.code.now m.jumps m.top st (step_of (meaning m.top.function) s ∷ todo_of (meaning m.top.function) m.work.now)
  pub items : m.items ≡ []
  pub ends : is_last (step_of (meaning m.top.function) s ∷ todo_of (meaning m.top.function) m.work.now) ≡ true → CanEnd m st
  pub enters : CanEnterFirst world m st (step_of (meaning m.top.function) s ∷ todo_of (meaning m.top.function) m.work.now)

abbrev pub AnswersStep : Step → (old new : Machine) → Result (Option ℕ) Halt → Type 0
AnswersStep s old new result =
    (world : World) (meaning : Option ℕ → Meaning) (st : State) → HasTaken world meaning s old st → Answers world meaning result new (step world st Control)

-- the control step of a move
abbrev pub step_of_move : Move → Step
step_of_move Out = taking.GoOut
step_of_move On = taking.GoOn
step_of_move Back = taking.GoBack
