-- The event that is taken, by a state that the machine stands for.
use Rattle.std.proofs.Common.{◌≡◌, ℕ, Option, Result, Ok, Err, IfOk, ap, subst, ◌∙◌}
use Rattle.c_typed.specs.declared.tree.Place.{Place}
use Rattle.c_model.specs.Steps.{Ev, event_of}
use Rattle.c_model.specs.Steps as steps
use Rattle.c_model.specs.Runs.{State}
use Rattle.c_model.specs.World.{World}
use Rattle.run_control.specs.View.{Meaning}
use Rattle.run_state.specs.declared.machine.Machine.{Machine}
use Rattle.run_state.specs.Stands.{Stands}
use Rattle.run_answers.specs.declared.pick.Pick.{Pick}
use Rattle.run_answers.specs.Picks.{event_at, IsOfEvent, IsPick}
use Rattle.run_answers.proofs.Opened.{top_frame}

-- the events of the top frame have its number and its turn
pub event_seen : (world : World) (meaning : Option ℕ → Meaning) (m n : Machine) (st : State) (u : Place) → Stands world meaning m st →
    n.top.frame ≡ m.top.frame → n.top.turn ≡ m.top.turn → event_at n u ≡ event_of world st.top.scene u
event_seen world meaning m n st u stands frame turn =
    let top = top_frame world meaning m st stands in
    let number : n.top.frame.0 ≡ world.number st.top.scene.path = ap (λ f. f.0) frame ∙ top.number in
    let turned : n.top.turn ≡ st.top.scene.turn = turn ∙ top.turn in
    (λ i. record { frame = record { 0 = number i }; turn = turned i; node = u.node; kind = u.kind })

-- so the pick of an event is this one of the definitions
pub event_taken : {E : Type 0} (r : Result Pick E) (world : World) (meaning : Option ℕ → Meaning) (m n : Machine) (st : State) (u : Place) (p : steps.Pick) →
    Stands world meaning m st → n.top.frame ≡ m.top.frame → n.top.turn ≡ m.top.turn → Ev u ≡ p → IfOk r (IsOfEvent (event_at n u)) → IfOk r (IsPick world st p)
event_taken (Ok x) world meaning m n st u p stands frame turn is taken =
    subst (λ q. IsPick world st q x) is (subst (λ e. IsOfEvent e x) (event_seen world meaning m n st u stands frame turn) taken)
event_taken (Err e) world meaning m n st u p stands frame turn is taken = tt
