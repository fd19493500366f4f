-- What holds of the frames below the top one stays as they stay.
use Rattle.std.proofs.Common.{arith, ◌≡◌, ◌<◌, ◌≤◌, ℕ, suc, List, [], ◌∷◌, length, map, Option, Some, None, slice_get}
use Rattle.std.proofs.Common.{sym, ap, subst, ◌∙◌}
use Rattle.std.proofs.lemmas.Option.{same_Some}
use Rattle.c_typed.specs.declared.tree.Place.{Place}
use Rattle.c_model.specs.Steps.{Begun, Local, Scene}
use Rattle.c_model.specs.World.{World}
use Rattle.mem_objects.specs.declared.value.Value.{Value as Kept_value}
use Rattle.seq_order.specs.Marked.{taken_in}
use Rattle.run_control.specs.declared.work.Work.{Work}
use Rattle.run_control.specs.View.{Meaning}
use Rattle.run_layout.specs.Chosen.{IsKept}
use Rattle.run_state.specs.declared.machine.Machine.{Machine}
use Rattle.run_state.specs.declared.machine.Open.{Open}
use Rattle.run_state.specs.declared.machine.Stage.{Stage}
use Rattle.run_state.specs.declared.watch.Begun.{Begun as Shown}
use Rattle.run_state.specs.Stands.{StandFrames, StandsBegun}
use Rattle.run_laws.specs.Frames.{KeepFrames, KeepsBegun, KeepsFrame, KeepsOpen, Sees, SeesFunction, function_of}

-- the code is the same, what is shown of frames below this height stays, and there are no fewer rooms and places
pub record IsMore (height : ℕ) (old new : Machine) : Type 0 where
  pub code : new.image.code ≡ old.image.code
  pub begun : (j : ℕ) (b : Shown) → j < height → slice_get old.begun.items j ≡ Some b → slice_get new.begun.items j ≡ Some b
  pub values : length old.values.items ≤ length new.values.items
  pub locals : length old.locals.items ≤ length new.locals.items

pub lower : (h k : ℕ) (old new : Machine) → h ≤ k → IsMore k old new → IsMore h old new
lower h k old new le more = record {
  code = more.code;
  begun = λ j b lt is. more.begun j b (omega (arith, lt, le)) is;
  values = more.values;
  locals = more.locals;
}

module _ (world : World) (old new : Machine) where
  sees_function : (h : ℕ) → IsMore h old new → (o : Open) (n : ℕ) → SeesFunction old o n → SeesFunction new o n
  sees_function h more o n s = record {
    code = s.code;
    at = ap (λ c. slice_get c.now.functions.items n) more.code ∙ s.at;
    blocks = s.blocks;
    expressions = s.expressions;
    above = s.above;
    places = let p = s.places in let l = more.locals in omega (arith, p, l);
    own = s.own;
  }

  pub sees_still : (h : ℕ) → IsMore h old new → (o : Open) (f : Option ℕ) → Sees old o f → Sees new o f
  sees_still h more o None s = absurd s
  sees_still h more o (Some n) s = sees_function h more o n s

  open_still : (height : ℕ) (o : Open) (s : Stage) (f : Scene) (e : Begun) → IsMore (suc height) old new
      → (b : Shown) × (slice_get old.begun.items height ≡ Some b) → KeepsOpen world old height o s f e → KeepsOpen world new height o s f e
  open_still height o s f e more shown k = record {
    straight = k.straight;
    chosen = λ b is. subst (λ (z : Shown). IsKept world f e (taken_in z.taken))
        (same_Some shown.0 b (sym (more.begun height shown.0 (omega arith) shown.1) ∙ is)) (k.chosen shown.0 shown.1);
    rooms = let r = k.rooms in let v = more.values in omega (arith, r, v);
  }

  begun_still : (meaning : Meaning) (height : ℕ) (o : Open) (stage : Option Stage) (f : Scene) (e : Option Begun) (waiting : Option Place)
      → IsMore (suc height) old new → StandsBegun world meaning old height o stage f e waiting → KeepsBegun world old height o stage f e
      → KeepsBegun world new height o stage f e
  begun_still meaning height o None f e waiting more stands k = tt
  begun_still meaning height o (Some s) f None waiting more stands k = tt
  begun_still meaning height o (Some s) f (Some e) waiting more stands k = open_still height o s f e more (stands.shown, stands.shows) k

  -- one frame
  pub frame_still : (meaning : Meaning) (o : Open) (below : List Open) (f : Local) (n k : ℕ) (waiting : Option Place) → n ≤ k
      → IsMore (suc (length below)) old new → StandsBegun world meaning old (length below) o o.stage f.scene f.begun waiting
      → KeepsFrame world old o below f n → KeepsFrame world new o below f k
  frame_still meaning o below f n k waiting le more stands keeps = record {
    begun = begun_still meaning (length below) o o.stage f.scene f.begun waiting more stands keeps.begun;
    sees = sees_still (suc (length below)) more o (function_of o.function below) keeps.sees;
    turn = let t = keeps.turn in omega (arith, t, le);
    base = let b = keeps.base in let v = more.values in omega (arith, b, v);
    lowest = keeps.lowest;
  }

  -- the frames that are held
  pub frames_still : (meaning : Option ℕ → Meaning) (left : Option Kept_value) (os : List Open) (wss : List (List Work)) (hs : List (Local × Place)) (n k : ℕ)
      → n ≤ k → IsMore (length os) old new → StandFrames world meaning old left os wss (map (λ h. (h.0, Some h.1)) hs)
      → KeepFrames world old os (map (λ h. h.0) hs) n → KeepFrames world new os (map (λ h. h.0) hs) k
  frames_still meaning left [] wss hs n k le more stands keep = tt
  frames_still meaning left (o ∷ os) wss [] n k le more stands keep = tt
  frames_still meaning left (o ∷ os) [] (h ∷ hs) n k le more stands keep = absurd stands
  frames_still meaning left (o ∷ os) (ws ∷ wss) (h ∷ hs) n k le more stands keep = (
    frame_still (meaning o.function) o os h.0 n k (Some h.1) le more stands.0.begun keep.0,
    frames_still meaning None os wss hs n k le (lower (length os) (suc (length os)) old new (omega arith) more) stands.2 keep.1,
  )
