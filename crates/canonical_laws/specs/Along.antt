-- A machine along the canonical order of a run, with all that its picks ask (own).
use Rattle.std.specs.Prelude.{◌≤◌, ℕ, List, Option, IfOk, Result, length}
use Rattle.addr_map.specs.declared.map.Row.{Row}
use Rattle.addr_map.specs.Sound.{AreApart}
use Rattle.c_typed.specs.declared.program.Program.{Program}
use Rattle.mem_laws.specs.MoreRows.{Extends}
use Rattle.c_model.specs.Runs.{State, canonical_pick}
use Rattle.c_model.specs.World.{World}
use Rattle.run_statements.specs.declared.numbers.Numbers.{Numbers}
use Rattle.run_state.specs.declared.halt.Halt.{Halt}
use Rattle.run_state.specs.declared.machine.Machine.{Machine}
use Rattle.run_state.specs.Stands.{Stands}
use Rattle.run_control.specs.View.{Meaning}
use Rattle.run_answers.specs.declared.pick.Pick.{Pick}
use Rattle.run_answers.specs.Answering.{AnswersCanonical}
use Rattle.run_answers.specs.Completing.{CompletesNext}
use Rattle.run_answers.specs.Keeping.{KeepsPick}
use Rattle.run_answers.specs.Library.{AnswersNextLibrary}
use Rattle.run_answers.specs.LibraryCompletes.{CompletesNextLibrary}
use Rattle.run_answers.specs.Picks.{IsPick}
use Rattle.run_answers.specs.Starting.{AnswersNextBody, AnswersNextCall}
use Rattle.run_answers.specs.Taking.{AnswersNext}
use Rattle.run_laws.specs.Going.{IsGoing}
use Rattle.value_facts.specs.Held.{HoldsOnly, KeepsSmall}
use Rattle.value_facts.specs.Sources.{IsPlaced}
use Rattle.value_facts.specs.Unresulted.{IsUnresulted}
use Rattle.argument_laws.specs.Arguments.{HaveArguments}
use Rattle.canonical_laws.specs.Idle.{IsIdle}

-- 1. The machine.

-- It is going after so many canonical picks, and holds at most as many frames. The world keeps values small; those of the state stand in rows; a frame has its
-- result only at its end, that of an isolated initializer none, and has the arguments of its function.
pub record IsAlong (world : World) (p : Program) (numbers : Numbers) (m : Machine) (st : State) (n : ℕ) : Type 0 where
  pub going : IsGoing world p numbers m st n
  pub small : KeepsSmall world
  pub placed : HoldsOnly (IsPlaced world) st
  pub unresulted : IsUnresulted st
  pub arguments : HaveArguments world p st
  pub idle : IsIdle m
  pub held : length st.held ≤ n

-- 2. A canonical pick of it.

-- what run_machine promises of `canonical`
pub record AnswersAll (old new : Machine) (r : Result Pick Halt) : Type 0 where
  pub takes : (world : World) (meaning : Option ℕ → Meaning) (st : State) → Stands world meaning old st
      → IfOk r (IsPick world st (canonical_pick world st.top st.top.begun))
  pub steps : AnswersCanonical old new r
  pub events : AnswersNext old new r
  pub bodies : AnswersNextBody old new r
  pub calls : AnswersNextCall old new r
  pub libraries : AnswersNextLibrary old new r
  pub completes : CompletesNext old new r
  pub completes_libraries : CompletesNextLibrary old new r
  pub keeps : KeepsPick old new r

-- The rows of the machine before the pick and behind it are among these, which stand apart, as an address map has them.
pub record HasRowsOf (rows : List Row) (old new : Machine) : Type 0 where
  pub before : Extends old.memory.rows rows
  pub behind : Extends new.memory.rows rows
  pub apart : AreApart rows
