-- The body of a call of a library function may be done, that comes next in a machine that stands so.
use Rattle.std.proofs.Common.{◌≡◌, ◌+◌, ◌-◌, ◌^◌, min, ℕ, true, List, [], ◌∷◌, Option, Some, refl, sym, subst}
use Rattle.std.specs.Borrow.{Bor}
use Rattle.c_model.specs.Runs.{State}
use Rattle.c_model.specs.Steps.{Begun, Ev, MayPick, Scene}
use Rattle.c_model.specs.Values.{Value}
use Rattle.c_model.specs.World.{World}
use Rattle.run_layout.specs.declared.steps.Due.{Due}
use Rattle.run_layout.specs.declared.steps.Operand.{Operand}
use Rattle.run_state.specs.declared.machine.Machine.{Machine}
use Rattle.run_answers.specs.Takes.{CallTakesGiven}
use Rattle.run_answers.specs.Library.{ArgumentsGive, IsCallOfLibrary}
use Rattle.run_answers.specs.Picks.{NextIsPermitted}
use Rattle.run_answers.specs.Starting.{ArePassed}
use Rattle.run_answers.specs.Taking.{passed_stage}
use Rattle.code_view.specs.Events.{EventsAreEvaluated}
use Rattle.code_view.specs.Named.{OpenIsKnown, OpenIsNamed}
use Rattle.run_laws.specs.Asked.{CodeHasRooms}
use Rattle.run_laws.specs.Calls.{IsCallCode}
use Rattle.run_laws.specs.LibraryCalls.{CallsLibrary, OpenIsLibraryCall, OpenMayCallLibraryNext}
use Rattle.run_laws.proofs.Calling.{is_call_code}
use Rattle.run_laws.proofs.Given.{end_small, event_is, has_rooms, next_listed}

-- operands that are passed give their values
given_of : (m : Machine) (os : List Operand) (vs : List Value) → ArePassed m os vs → ArgumentsGive m os vs
given_of m [] [] p = tt
given_of m [] (v ∷ vs) p = absurd p
given_of m (o ∷ os) [] p = absurd p
given_of m (o ∷ os) (v ∷ vs) p = (p.0.1, given_of m os vs p.1)

-- a call of a function of the library
library_call : (world : World) (n : Machine) (f : Scene) (e : Begun) (d : Due) → IsCallCode world n f e d → CallsLibrary world f e d
    → IsCallOfLibrary world n f e d
library_call world n f e d c own = record {
  number = c.number;
  act = c.act;
  body = record { kind = c.body; discarded = c.discarded; ty = c.ty; line = c.line; operands = c.operands; node = c.node };
  code = c.code;
  there = c.there;
  typed = c.typed;
  types = c.types;
  designator = c.designator;
  arguments = given_of n c.code.arguments.items _ c.arguments;
  function = own.function;
  own = own.own c.discarded c.ty c.line c.operands c.node;
  sizes = own.sizes c.discarded c.ty c.line c.operands c.node;
}

module _ (calls : CallTakesGiven) (named : OpenIsNamed) where
  pub is_library_call : OpenIsLibraryCall
  is_library_call world meaning m st e s laid firsts nodes stage items d o places is may b own =
      library_call world _ st.top.scene e d
      (is_call_code calls named world meaning m st e s laid firsts nodes stage items d o places is may b) own

  pub may_call_library_next : CodeHasRooms → NextIsPermitted → OpenIsKnown → EventsAreEvaluated → OpenMayCallLibraryNext
  may_call_library_next rooms permitted known evaluated world meaning m st e s laid firsts nodes o within straight places functions bodies = record {
    stood = o.stood;
    within = within;
    stage = o.stage;
    straight = straight;
    end = end_small world meaning m st e s laid firsts nodes o;
    at = o.at;
    rooms = has_rooms rooms world meaning m st e s laid firsts nodes o;
    constants = o.code.constants;
    functions = functions;
    each = λ next comes.
        let may : MayPick world st.top (Some e) (Ev next.1.now.place) =
        subst (λ (z : Option Begun). MayPick world st.top z (Ev next.1.now.place)) o.stood.begun
        ((permitted m s next o.stage straight comes world meaning st o.stood.stands).0 refl) in
        let there = next_listed world meaning m st e s laid firsts nodes o straight next comes in
        let own = bodies next comes in
        record {
          event = event_is world meaning m st e s laid firsts nodes o m.top.stage m.items known evaluated next.1.now there;
          call = is_library_call world meaning m st e s laid firsts nodes
              (passed_stage (Some (record s { cursor = min (s.cursor + next.0) (2 ^ 64 - 1) }))) [] next.1.now o places there may own.0 own.1;
        };
  }
