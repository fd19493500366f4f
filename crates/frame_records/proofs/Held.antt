-- What is recorded of the frames that are held stays so while the frames above go on.
use Rattle.std.proofs.Common.{◌≡◌, ◌≤◌, suc, true, List, [], ◌∷◌, ◌++◌, length, Option, Some, None, refl, sym, ap, subst, ◌∙◌, arith}
use Rattle.ub_base.specs.Frames.{Path}
use Rattle.c_typed.specs.declared.tree.Place.{Place}
use Rattle.c_model.specs.Findings.{is_under}
use Rattle.c_model.specs.Runs.{Entry}
use Rattle.c_model.specs.Steps.{Begun, Local, Scene}
use Rattle.c_model.specs.World.{World}
use Rattle.run_evaluations.specs.Told.{Opened}
use Rattle.detector_laws.specs.Frames.{AllWaitFree, StandsFree, WaitsFree}
use Rattle.detector_laws.specs.Records.{Records}
use Rattle.detector_laws.specs.Shown.{begun_below, begun_in}
use Rattle.detector_laws.proofs.Paths.{under_tail}
use Rattle.detector_laws.proofs.Recorded.{stays_recorded}
use Rattle.frame_records.specs.Frames.{HeldAre, HeldRecorded, below, more}

pub some_of : (a b : Begun) (o : Option Begun) → o ≡ Some a → o ≡ Some b → a ≡ b
some_of a b o p q = ap (begun_or a) (sym p ∙ q)
  where
    begun_or : Begun → Option Begun → Begun
    begun_or e None = e
    begun_or e (Some d) = d

module _ (world : World) where
  -- nothing was found in it
  pub held_free : (trace : List Entry) (f : Local) (u : Place) (t : Opened) → WaitsFree world trace f u → (r : HeldRecorded world trace f u t) →
      StandsFree world trace f.scene r.expression r.passed (u ∷ r.ahead)
  held_free trace f u t w r =
      let same = some_of w.expression r.expression f.begun w.is r.is in
      let s : StandsFree world trace f.scene r.expression w.passed (u ∷ w.ahead) =
      subst (λ z. StandsFree world trace f.scene z w.passed (u ∷ w.ahead)) same w.stands in
      record { formed = s.formed; along = r.along; free = s.free }

  pub held_records : (trace : List Entry) (x : Entry) (f : Local) (u : Place) (t : Opened) → WaitsFree world trace f u →
      is_under x.path ((f.scene.turn, u.node) ∷ f.scene.path) ≡ true → (r : HeldRecorded world trace f u t) →
      Records world (x ∷ trace) f.scene r.expression r.passed (r.passed ++ u ∷ []) t
  held_records trace x f u t w under r =
      stays_recorded world trace x f.scene r.expression u r.passed r.ahead t w.body (held_free trace f u t w r) under r.records

  pub held_goes : (trace : List Entry) (x : Entry) (f : Local) (u : Place) (t : Opened) → WaitsFree world trace f u →
      is_under x.path ((f.scene.turn, u.node) ∷ f.scene.path) ≡ true → HeldRecorded world trace f u t → HeldRecorded world (x ∷ trace) f u t
  held_goes trace x f u t w under r = record {
    expression = r.expression;
    is = r.is;
    passed = r.passed;
    ahead = r.ahead;
    along = r.along;
    records = held_records trace x f u t w under r;
    last = r.last;
    behind = r.behind;
  }

  pub held_stay : (trace : List Entry) (x : Entry) (left : List (Scene × Begun)) (path : Path) (hs : List (Local × Place)) (ts : List Opened) →
      is_under x.path path ≡ true → AllWaitFree world trace path hs → HeldAre world trace left hs ts → HeldAre world (x ∷ trace) left hs ts
  held_stay trace x left path hs ts under w (below _ _ is bare) = below hs ts is bare
  held_stay trace x left path _ _ under w (more h hs t ts r rest) =
      let u = subst (λ z. is_under x.path z ≡ true) w.0 under in
      more h hs t ts (held_goes trace x h.0 h.1 t w.1 u r)
      (held_stay trace x left h.0.scene.path hs ts (under_tail x.path (h.0.scene.turn, h.1.node) h.0.scene.path u) w.2 rest)

  -- of so many full expressions that are open below
  pub begun_more : (f : Scene) (o : Option Begun) (e : Begun) (xs : List (Scene × Begun)) → o ≡ Some e → length (begun_in f o xs) ≡ suc (length xs)
  begun_more f None e xs q = absurd (cc (q))
  begun_more f (Some d) e xs q = refl

  pub held_count : (trace : List Entry) (left : List (Scene × Begun)) (hs : List (Local × Place)) (ts : List Opened) → HeldAre world trace left hs ts →
      length left ≤ length (begun_below hs)
  held_count trace left hs ts (below _ _ is bare) = let n = ap length is in omega (arith, n)
  held_count trace left _ _ (more h hs t ts r rest) =
      let n = begun_more h.0.scene h.0.begun r.expression (begun_below hs) r.is in
      let m = held_count trace left hs ts rest in
      omega (arith, n, m)
