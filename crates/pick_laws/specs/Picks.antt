-- Each canonical pick of a machine that is going is the definitions' step, and it is going again behind it (own).
use Rattle.std.specs.Prelude.{◌≡◌, ◌<◌, ◌^◌, ◌⊎◌, ℕ, suc, List, Option, Some, None, Result, Ok, Err}
use Rattle.ub_base.specs.declared.names.Frame.{Frame}
use Rattle.ub_base.specs.declared.names.ObjName.{ObjName}
use Rattle.addr_map.specs.Rows.{row_of}
use Rattle.c_types.specs.declared.library.LibFunc.{LibFunc}
use Rattle.c_typed.specs.declared.program.Program.{Program}
use Rattle.c_typed.specs.declared.tree.Place.{Place}
use Rattle.mem_laws.specs.MoreRows.{Extends}
use Rattle.mem_objects.specs.Keeps.{RowsStay}
use Rattle.library_laws.specs.Called.{items_of}
use Rattle.c_model.specs.Runs.{Entry, Ends, No_row, Outcome, Over, Raises, Running, State, canonical_pick, step}
use Rattle.c_model.specs.Steps.{Begun, Control, Ev}
use Rattle.c_model.specs.World.{World}
use Rattle.run_layout.specs.declared.nodes.NodeInfo.{NodeInfo}
use Rattle.run_layout.specs.declared.steps.Expression.{Expression as Laid}
use Rattle.run_statements.specs.declared.numbers.Numbers.{Numbers}
use Rattle.run_state.specs.declared.halt.Halt.{Halt}
use Rattle.run_state.specs.declared.halt.Halt.TheVariants as halt
use Rattle.run_state.specs.declared.machine.Machine.{Machine}
use Rattle.run_state.specs.declared.machine.Stage.{Stage}
use Rattle.run_answers.specs.declared.pick.Pick.{Pick}
use Rattle.run_answers.specs.declared.pick.Pick.TheVariants as pick
use Rattle.run_answers.specs.Answering.{Answers, AnswersCanonical, MayGoOn, newest_items}
use Rattle.run_answers.specs.Keeping.{KeepsPick}
use Rattle.run_answers.specs.Library.{AnswersNextLibrary, MayCallLibraryNext}
use Rattle.run_answers.specs.Starting.{AnswersNextBody, AnswersNextCall, MayCallNext, MayStartNext, numbered}
use Rattle.run_answers.specs.Taking.{AnswersNext, MayTakeNext, untouched}
use Rattle.code_view.specs.Numbering.{meaning_of}
use Rattle.run_laws.specs.Open.{IsOpen}
use Rattle.run_laws.specs.Going.{IsGoing}

-- 1. What a pick comes to.

module _ (world : World) (p : Program) (numbers : Numbers) (n : ℕ) (new : Machine) where
  -- the run goes on: the machine is going in the definitions' next state, with one pick more, whose items it has
  abbrev pub GoesOn : Outcome → Type 0
  GoesOn o = (after : State) × (o ≡ Running after) × (newest_items after.trace ≡ new.items) × IsGoing world p numbers new after (suc n)

  -- so it is once the frame that the pick has started has the number that the world gives it
  abbrev pub GoesOnNumbered : Outcome → Type 0
  GoesOnNumbered o = (after : State) × (o ≡ Running after) × (newest_items after.trace ≡ new.items)
      × ((frame : Frame) → frame.0 ≡ world.number after.top.scene.path → IsGoing world p numbers (numbered new frame) after (suc n))

  -- the run has ended with this status, and with what was written
  abbrev pub HasEnded : (status : ℕ) → Outcome → Type 0
  HasEnded status o = (trace : List Entry) × (o ≡ Ends status new.streams.output trace) × (newest_items trace ≡ new.items)

  -- or it has raised a clause, passes a limit, or needs a row that isn't there; there may be want of memory
  abbrev pub Comes : Result Pick Halt → Outcome → Type 0
  Comes (Ok (pick.Step None)) o = GoesOn o
  Comes (Ok (pick.Step (Some status))) o = HasEnded status o
  Comes (Ok (pick.Starts event)) o = GoesOnNumbered o
  Comes (Ok (pick.Event event completed None)) o = GoesOn o
  Comes (Ok (pick.Event event completed (Some status))) o = HasEnded status o
  Comes (Err e) o = Answers world (meaning_of p numbers new.image.code.now) (Err e) new o

  -- Of the body of a call of a library function, whose items the machine has with what is read of a string in one range.
  abbrev pub GoesOnJoined : LibFunc → Outcome → Type 0
  GoesOnJoined f o = (after : State) × (o ≡ Running after) × (new.items ≡ items_of f (newest_items after.trace)) × IsGoing world p numbers new after (suc n)

  abbrev pub ComesOfLibrary : LibFunc → Result Pick Halt → Outcome → Type 0
  ComesOfLibrary f (Ok (pick.Event event completed None)) o = GoesOnJoined f o
  ComesOfLibrary f (Ok (pick.Event event completed (Some status))) o = HasEnded status o
  ComesOfLibrary f (Ok (pick.Starts event)) o = ⊥
  ComesOfLibrary f (Ok (pick.Step status)) o = ⊥
  ComesOfLibrary f (Err (halt.Raised event line clause)) o = (trace : List Entry) × (o ≡ Raises clause trace)
  ComesOfLibrary f (Err (halt.Over cause number)) o = o ≡ Over cause number
  ComesOfLibrary f (Err halt.Unplaced) o = ((x : ObjName) → row_of world.rows x ≡ row_of new.memory.rows x) → o ≡ No_row
  ComesOfLibrary f (Err halt.NoMemory) o = Unit {0}

-- 2. Of a machine that is going, in a world that has the rows that it has behind the pick. What is asked of the pick stands beside.

pub record GoesFrom (world : World) (p : Program) (numbers : Numbers) (old : Machine) (st : State) (n : ℕ) (new : Machine) : Type 0 where
  pub going : IsGoing world p numbers old st n
  pub rows : RowsStay new.memory.rows world.rows
  pub few : suc n < 2 ^ 32

-- a control step
abbrev pub ControlComes : Type 0
ControlComes =
    (world : World) (p : Program) (numbers : Numbers) (old new : Machine) (st : State) (n : ℕ) (r : Result Pick Halt)
    → AnswersCanonical old new r → KeepsPick old new r → GoesFrom world p numbers old st n new → MayGoOn world old st
    → Comes world p numbers n new r (step world st Control)

-- an event that isn't a body, of the full expression that is open
abbrev pub EventComes : Type 0
EventComes =
    (world : World) (p : Program) (numbers : Numbers) (old new : Machine) (st : State) (n : ℕ) (e : Begun) (s : Stage) (laid : Laid) (firsts : List ℕ)
    (nodes : List NodeInfo) (u : Place) (r : Result Pick Halt) → AnswersNext old new r → GoesFrom world p numbers old st n new
    → MayTakeNext world (meaning_of p numbers old.image.code.now) old st e s laid
    → IsOpen world (meaning_of p numbers old.image.code.now) (untouched old) st e s laid firsts nodes → canonical_pick world st.top st.top.begun ≡ Ev u
    → Comes world p numbers n new r (step world st (Ev u))

-- the body of a call of a function of the library, if memory isn't wanted
abbrev pub LibraryComes : Type 0
LibraryComes =
    (world : World) (p : Program) (numbers : Numbers) (old new : Machine) (st : State) (n : ℕ) (e : Begun) (s : Stage) (laid : Laid) (u : Place)
    (r : Result Pick Halt) → AnswersNextLibrary old new r → GoesFrom world p numbers old st n new → Extends new.memory.rows world.rows
    → MayCallLibraryNext world (meaning_of p numbers old.image.code.now) old st e s laid → canonical_pick world st.top st.top.begun ≡ Ev u
    → (r ≡ Err halt.NoMemory) ⊎ ((f : LibFunc) × ComesOfLibrary world p numbers n new f r (step world st (Ev u)))

-- the body of an isolated initializer
abbrev pub InitializerComes : Type 0
InitializerComes =
    (world : World) (p : Program) (numbers : Numbers) (old new : Machine) (st : State) (n : ℕ) (e : Begun) (s : Stage) (u : Place) (r : Result Pick Halt)
    → AnswersNextBody old new r → GoesFrom world p numbers old st n new → MayStartNext world (meaning_of p numbers old.image.code.now) old st e s
    → canonical_pick world st.top st.top.begun ≡ Ev u → Comes world p numbers n new r (step world st (Ev u))

-- the body of a call of a function that the program defines
abbrev pub CallComes : Type 0
CallComes =
    (world : World) (p : Program) (numbers : Numbers) (old new : Machine) (st : State) (n : ℕ) (e : Begun) (s : Stage) (u : Place) (r : Result Pick Halt)
    → AnswersNextCall old new r → GoesFrom world p numbers old st n new → MayCallNext world (meaning_of p numbers old.image.code.now) old st e s
    → canonical_pick world st.top st.top.begun ≡ Ev u → Comes world p numbers n new r (step world st (Ev u))
