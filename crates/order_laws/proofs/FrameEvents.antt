-- What a pick does to the frame that it is of.
use Rattle.std.proofs.Common.{◌≡◌, ◌+◌, Bool, true, false, true≢false, if◌then◌else◌, List, [], ◌∷◌, Option, Some, None, is_some, refl, sym, ap, ◌∙◌}
use Rattle.c_typed.specs.declared.tree.Place.{Place}
use Rattle.c_typed.specs.Order.{same_place}
use Rattle.c_model.specs.World.{World}
use Rattle.c_model.specs.Values.{Value}
use Rattle.c_model.specs.Moves.{End}
use Rattle.c_model.specs.Steps.{Scene, Local, Begun, Pick, Ev, does, move, next}
use Rattle.c_model.specs.Runs.{depth_of}
use Rattle.c_model.specs.MachineLaws.{OrderLaws}
use Rattle.c_model.specs.ModelMachine.{gives, start_where, is_control, ready_in, frame_machine}
use Rattle.c_model.proofs.Halves.{closed_at}
use Rattle.c_model.proofs.Listed.{same_place_eq}
use Rattle.c_model.proofs.FramesKeep.{next_of, order_laws}
use Rattle.order_laws.specs.StoreParts.{store_parts}
use Rattle.order_laws.specs.PermittedPicks.{ClosedIn}
use Rattle.order_laws.proofs.Traces.{Event, AllDone}
use Rattle.order_laws.proofs.OpenFrames.{Among, among_first, among_later, AllSeen}

module _ (world : World) where
  pub depth_same : (f g : Local) (ms : List (Local × Place)) → f.function ≡ g.function → depth_of f ms ≡ depth_of g ms
  depth_same f g [] e = ap (λ o. if is_some o then 1 else 0) e
  depth_same f g (m ∷ ms) e = ap (λ o. (if is_some o then 1 else 0) + depth_of m.0 ms) e

  -- the laws of the order within a full expression
  abbrev pub order_of : OrderLaws (frame_machine world (store_parts world.rows))
  order_of = order_laws world (store_parts world.rows)

  pub done_on : (f : Local) (q : Pick) (v : Value) (es : List Event) → ready_in world f.scene f.begun q ≡ true → is_control q ≡ false → AllDone f.begun es
      → AllDone (next world f f.begun q v).begun es
  done_on f q v [] r c d = tt
  done_on f q v (x ∷ es) r c (d, ds) = (order_of.done_stays f x.pick q v d r c, done_on f q v es r c ds)

  pub ready_begun : (f : Scene) (o : Option Begun) (u : Place) → ready_in world f o (Ev u) ≡ true → is_some o ≡ true
  ready_begun f None u r = absurd (cc)
  ready_begun f (Some e) u r = refl

  pub event_scene : (f : Local) (o : Option Begun) (u : Place) (v : Value) → (next world f o (Ev u) v).scene ≡ f.scene
  event_scene f None u v = refl
  event_scene f (Some e) u v = refl

  pub event_function : (f : Local) (o : Option Begun) (u : Place) (v : Value) → (next world f o (Ev u) v).function ≡ f.function
  event_function f None u v = refl
  event_function f (Some e) u v = refl

  pub event_closed : (f : Local) (o : Option Begun) (u : Place) (v : Value) → ready_in world f.scene o (Ev u) ≡ true → ClosedIn world f o
      → ClosedIn world (next world f o (Ev u) v) (next world f o (Ev u) v).begun
  event_closed f None u v r c = absurd (cc)
  event_closed f (Some e) u v r c = λ w h. closed_at world f.scene e u v (next_of world f.scene e u r) w (c w) h

  pub event_no_end : (f : Local) (u : Place) → ready_in world f.scene f.begun (Ev u) ≡ true → move world f f.begun (Ev u) ≡ End → ⊥
  event_no_end f u r h =
      true≢false (sym (order_of.leave_control f (Ev u) r (ap (start_where (gives (does world f f.begun (Ev u)))) h
      ∙ end_where (gives (does world f f.begun (Ev u))))))
    where
      end_where : (b : Bool) → start_where b End ≡ End
      end_where true = refl
      end_where false = refl

  -- what is done behind an event is that event or was done before
  pub event_seen : (f : Local) (o : Option Begun) (u : Place) (v : Value) (y : Event) (es : List Event) → y.pick ≡ Ev u
      → ready_in world f.scene o (Ev u) ≡ true → AllSeen world o es
      → AllSeen world (next world f o (Ev u) v).begun (y ∷ es)
  event_seen f None u v y es yp r seen w d = absurd (cc (r))
  event_seen f (Some e) u v y es yp r seen w d = go (same_place u w) refl d
    where
      go : (b : Bool) → same_place u w ≡ b → is_some (if b then Some v else e.given w) ≡ true → Among (λ z. z.pick ≡ Ev w) (y ∷ es)
      go true k d = among_first y es (yp ∙ ap Ev (same_place_eq u w k))
      go false k d = among_later y es (seen w d)
