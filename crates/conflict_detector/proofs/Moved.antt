-- What is recorded, where other parts of the detector change.
use Rattle.std.proofs.Common.{◌≡◌, ◌<◌, ◌-◌, ◌∙◌, ℕ, Bor, List, [], ◌∷◌, length, Some, sym, subst, arith}
use Rattle.std.specs.Prelude.{slice_get}
use Rattle.run_state.specs.declared.watch.Begun.{Begun}
use Rattle.c_typed.specs.declared.tree.Typed.{Typed}
use Rattle.run_evaluations.specs.Scopes.{Scope}
use Rattle.run_evaluations.specs.Told.{Opened, begun}
use Rattle.conflict_detector.specs.declared.detector.Detector.{Detector}
use Rattle.conflict_detector.specs.Examined.{AreRight}
use Rattle.conflict_detector.specs.Followed.{AreFollowed}
use Rattle.conflict_detector.specs.Recorded.{HasBegun, IsIdle, IsRecording}

pub idle_moved : (roots : List (Bor Typed)) (d e : Detector) → d.known ≡ e.known → d.recorded ≡ e.recorded → d.open ≡ e.open → IsIdle roots d → IsIdle roots e
idle_moved roots d e known recorded opened i = record {
  known = subst (λ z. AreRight roots z) known i.known;
  none = sym recorded ∙ i.none;
  main = i.main;
  bare = i.bare;
  follows = subst (λ z. AreFollowed (i.main ∷ []) z) opened i.follows;
}

pub recording_moved : (roots : List (Bor Typed)) (os : List Opened) (d e : Detector) → d.known ≡ e.known → d.recorded ≡ e.recorded → d.open ≡ e.open →
    IsRecording roots os d → IsRecording roots os e
recording_moved roots os d e known recorded opened i = record {
  known = subst (λ z. AreRight roots z) known i.known;
  some = subst (λ n. 0 < n) recorded i.some;
  started = i.started;
  follows = subst (λ z. AreFollowed os z) opened i.follows;
}

-- a full expression that is on top stands at a place
pub some_within : (bs : List Begun) (b : Begun) (n len : ℕ) → slice_get bs (length bs - 1) ≡ Some b → n ≡ len → len ≡ length bs → 0 < n
some_within [] b n len h e g = absurd (cc)
some_within (c ∷ bs) b n len h e g = omega (arith, e, g)

pub begun_as : (roots : List (Bor Typed)) (a b : Begun) (d : Detector) → a ≡ b → HasBegun roots a d → HasBegun roots b d
begun_as roots a b d e h = subst (λ z. HasBegun roots z d) e h

pub begun_turn : (roots : List (Bor Typed)) (a b : Begun) (s : Scope) (t : Opened) (ts : List Opened) (d : Detector) → a ≡ b →
    IsRecording roots (begun a.turn s t ∷ ts) d → IsRecording roots (begun b.turn s t ∷ ts) d
begun_turn roots a b s t ts d e h = subst (λ (z : Begun). IsRecording roots (begun z.turn s t ∷ ts) d) e h
