-- The start of a run.
use Rattle.std.proofs.Common.{◌≡◌, ◌≤◌, ℕ, arith, true, refl, sym, ap, subst, List, [], length, map, None}
use Rattle.std.specs.Prelude.{is_some}
use Rattle.std.specs.List.{All}
use Rattle.ub_base.specs.Frames.{Path}
use Rattle.c_typed.specs.declared.program.Program.{Program}
use Rattle.mem_spec.specs.Script.{Act, Done, Ended, Outside, Raised, Unplaced, run}
use Rattle.c_model.specs.Runs.{Running, State, created_after, main_frame, nothing_stands, stand, start, started_run, too_many}
use Rattle.c_model.specs.Values.{Value}
use Rattle.c_model.specs.World.{World}
use Rattle.program_view.specs.View.{main_values}
use Rattle.frame_numbers.specs.Numbers.{number_in}
use Rattle.run_statements.specs.declared.numbers.Numbers.{Numbers}
use Rattle.run_state.specs.declared.machine.Machine.{Machine}
use Rattle.value_facts.specs.Held.{AreBytes, KeepsSmall}
use Rattle.value_facts.specs.Sources.{IsPlaced, StartsPlaced}
use Rattle.value_facts.specs.Unresulted.{StartsUnresulted}
use Rattle.argument_laws.specs.Arguments.{RunsLawful, StartsWithArguments}
use Rattle.canonical_laws.specs.Held.{StartHoldsNone}
use Rattle.run_laws.specs.Going.{IsGoing}
use Rattle.canonical_laws.specs.Begins.{BeginsAlong, GoingIsAlong}
use Rattle.canonical_laws.proofs.Steps.{limited_running, same_state, through_running}

-- nothing was done, in the frame of `main`
record IsFirstState (st : State) : Type 0 where
  trace : st.trace ≡ []
  path : st.top.scene.path ≡ []

started_first : (world : World) (a : Act Value) (vs : List Value) (st : State) → started_run world a vs ≡ Running st → IsFirstState st
started_first world (Done v is s) vs st q =
    let same = same_state _ st (limited_running world (Running (record { top = main_frame world vs; held = []; store = s; trace = [] })) st q) in
    record { trace = sym (ap (λ (z : State). z.trace) same); path = sym (ap (λ (z : State). z.top.scene.path) same) }
started_first world (Raised c) vs st q = absurd (cc (q))
started_first world (Ended n is s) vs st q = absurd (cc (q))
started_first world (Outside c n) vs st q = absurd (cc (q))
started_first world Unplaced vs st q = absurd (cc (q))

start_first : (world : World) (input : List ℕ) (vs : List Value) (st : State) → start world input vs ≡ Running st → IsFirstState st
start_first world input vs st q =
    started_first world (run world.rows (stand world world.program.standing) (nothing_stands world input)) vs st
    (through_running (too_many world.limits (created_after 0 (map (λ o. o.decl) world.program.standing)))
    (started_run world (run world.rows (stand world world.program.standing) (nothing_stands world input)) vs) st q)

-- the laws of starts
pub record Starting : Type 0 where
  pub placed : StartsPlaced
  pub unresulted : StartsUnresulted
  pub arguments : StartsWithArguments
  pub held : StartHoldsNone

module _ (laws : Starting) (world : World) (p : Program) (numbers : Numbers) (strings : List (List ℕ)) (input : List ℕ) (m : Machine) (st : State)
    (small : KeepsSmall world) (placed : All (IsPlaced world) (main_values p world strings)) (bytes : AreBytes input)
    (starts : start world input (main_values p world strings) ≡ Running st) (going : IsGoing world p numbers m st 0) where
  first : IsFirstState st
  first = start_first world input (main_values p world strings) st starts

  none_held : length st.held ≡ 0
  none_held = laws.held world input (main_values p world strings) st starts

  few_held : length st.held ≤ 0
  few_held = omega (arith, none_held)

  lawful : RunsLawful world p
  lawful = record {
    lawful = going.set_up.whole.lawful;
    main_block = going.set_up.whole.main;
    functions = going.set_up.world.program.functions;
    main = going.set_up.world.program.main;
    agree = going.set_up.world.program.agree;
    library = going.set_up.world.program.library;
  }

  begins : m.left ≡ None → BeginsAlong world p numbers m st
  begins left = record {
    along = record {
      going = going;
      small = small;
      placed = laws.placed world input (main_values p world strings) st small bytes placed starts;
      unresulted = laws.unresulted world input (main_values p world strings) st starts;
      arguments = laws.arguments world p input strings st lawful starts;
      idle = λ own. left;
      held = few_held;
    };
    trace = first.trace;
    listed = λ frames. subst (λ (z : Path). is_some (number_in frames z) ≡ true) (sym first.path) refl;
  }

pub going_along : Starting → GoingIsAlong
going_along laws world p numbers strings input m st small placed bytes starts going left =
    begins laws world p numbers strings input m st small placed bytes starts going left
