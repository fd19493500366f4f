-- The conflict that counts of those of all frames is what is found first in all of them.
use Rattle.std.proofs.Common.{◌≡◌, inl, inr, ℕ, suc, Bool, true, false, if◌then◌else◌, List, [], ◌∷◌, ◌++◌, Option, Some, None, length}
use Rattle.std.proofs.Common.{refl, sym, ap, ap₂, subst, ◌∙◌, true≢false, arith}
use Rattle.std.specs.Prelude.{reverse}
use Rattle.std.specs.declared.cmp.Ordering.{Ordering}
use Rattle.std.specs.declared.cmp.Ordering.TheVariants.{Less, Equal}
use Rattle.std.specs.Ordering.{is_lt, ordering_then}
use Rattle.std.proofs.lemmas.Cmp.{nat_cmp_total, tied_itself}
use Rattle.std.proofs.lemmas.List.{length-reverse, reverse-append}
use Rattle.ub_base.specs.Frames.{Path, Row as FrameRow, path_of}
use Rattle.c_names.specs.Orders.{frame_cmp, path_cmp, step_cmp, steps_cmp}
use Rattle.c_typed.specs.declared.tree.Place.{Place}
use Rattle.c_model.specs.FirstFinding.{Finding, Pair, Raced, Order_dependent, found_in, least_pair, quarrel_or, quarrels, raced_or, races}
use Rattle.c_model.specs.FirstFinding.{with_items}
use Rattle.c_model.specs.Moments.{Open}
use Rattle.c_model.specs.Runs.{Entry}
use Rattle.c_model.specs.Steps.{Begun, Local, Scene}
use Rattle.c_model.specs.World.{World}
use Rattle.evaluation_log.specs.FoundItems.{counts_before, first_found, is_lesser}
use Rattle.evaluation_log.specs.declared.found.Found.{Found}
use Rattle.finding_laws.specs.FirstPairs.{IsFirstPair, NoPair, pair_told}
use Rattle.finding_laws.proofs.FirstPairs.{first_pair_taken, no_pair_taken}
use Rattle.telling_laws.specs.FirstFound.{place_in}
use Rattle.detector_laws.specs.Frames.{AllWaitFree}
use Rattle.detector_laws.specs.Looked.{finding_of}
use Rattle.detector_laws.specs.Shown.{begun_below, begun_in}
use Rattle.ending_laws.specs.Ends.{ending_at}
use Rattle.ending_laws.specs.Frames.{AreAnswers, AreNested, FirstOfFrames, IsAnswerIn, IsFindingOf, IsOneOf, IsStartedFrom, IsStartedFromAll, OpenAreNested}
use Rattle.ending_laws.specs.Frames.{all_ending, first_of_all}

-- ---- the frames of a state
module _ (world : World) (trace : List Entry) where
  further : (p q : Path) (step : ℕ × ℕ) (ys : List (Scene × Begun)) → p ≡ step ∷ q → IsStartedFromAll q ys → IsStartedFromAll p ys
  further p q step [] e h = tt
  further p q step (y ∷ ys) e (h, rest) = ((step, h.0 ∷ h.1, e ∙ ap (λ z. step ∷ z) h.2), further p q step ys e rest)

  started_below : (path : Path) (hs : List (Local × Place)) → AllWaitFree world trace path hs → IsStartedFromAll path (begun_below hs)
  started_below path [] a = tt
  started_below path (h ∷ hs) (p, w, rest) =
      subst (λ o. IsStartedFromAll path (begun_in h.0.scene o (begun_below hs))) (sym w.is) (
        ((h.0.scene.turn, h.1.node), [], p),
        further path h.0.scene.path (h.0.scene.turn, h.1.node) (begun_below hs) p (started_below h.0.scene.path hs rest),
      )

  nested_below : (path : Path) (hs : List (Local × Place)) → AllWaitFree world trace path hs → AreNested (begun_below hs)
  nested_below path [] a = tt
  nested_below path (h ∷ hs) (p, w, rest) =
      subst (λ o. AreNested (begun_in h.0.scene o (begun_below hs))) (sym w.is)
      (started_below h.0.scene.path hs rest, nested_below h.0.scene.path hs rest)

  nested_in : (f : Scene) (o : Option Begun) (hs : List (Local × Place)) → AllWaitFree world trace f.path hs → AreNested (begun_in f o (begun_below hs))
  nested_in f None hs a = nested_below f.path hs a
  nested_in f (Some e) hs a = (started_below f.path hs a, nested_below f.path hs a)

pub open_are_nested : OpenAreNested
open_are_nested world st free = nested_in world st.trace st.top.scene st.top.begun st.held free.held

-- ---- a frame comes before those that were started from it
some_more : (xs : List (ℕ × ℕ)) (n : ℕ) → length xs ≡ suc n → (x : ℕ × ℕ) × (rest : List (ℕ × ℕ)) × (xs ≡ x ∷ rest)
some_more [] n h = absurd (omega (arith, h))
some_more (x ∷ xs) n h = (x, xs, refl)

step_itself : (s : ℕ × ℕ) → step_cmp s s ≡ Equal
step_itself s = ap₂ ordering_then (tied_itself nat_cmp_total s.0) (tied_itself nat_cmp_total s.1)

longer : (p : List (ℕ × ℕ)) (x : ℕ × ℕ) (rest : List (ℕ × ℕ)) → steps_cmp p (p ++ x ∷ rest) ≡ Less
longer [] x rest = refl
longer (s ∷ p) x rest = ap₂ ordering_then (step_itself s) (longer p x rest)

before_started : (p q : Path) → IsStartedFrom p q → path_cmp q p ≡ Less
before_started p q h =
    let back = reverse (h.0 ∷ h.1) in
    let some = some_more back (length h.1) (length-reverse (h.0 ∷ h.1)) in
    ap (path_cmp q) h.2
    ∙ (ap (steps_cmp (reverse q)) (reverse-append (h.0 ∷ h.1) q ∙ ap (λ z. reverse q ++ z) some.2)
    ∙ longer (reverse q) some.0 some.1)

module _ (frames : List FrameRow) where
  pub lesser_frame : (f g : Found) (p q : Path) → path_of frames f.event.frame.0 ≡ p → path_of frames g.event.frame.0 ≡ q → IsStartedFrom p q →
      is_lesser frames g f ≡ true
  lesser_frame f g p q fp gq h = by_frames (frame_cmp frames g.event.frame.0 f.event.frame.0) _ _ (ap₂ path_cmp gq fp ∙ before_started p q h)
    where
      by_frames : (a b c : Ordering) → a ≡ Less → is_lt (ordering_then (ordering_then a b) c) ≡ true
      by_frames a b c e = ap (λ z. is_lt (ordering_then (ordering_then z b) c)) e

-- ---- the best one so far
module _ (world : World) (later : List Entry) (frames : List FrameRow) where
  abbrev open_of : Scene × Begun → Open
  open_of x = ending_at world later x.0 x.1

  abbrev told : Scene × Begun → Found → Pair
  told x f = pair_told world later (open_of x) (place_in f.event) (place_in f.against)

  abbrev first_race : List Open → Option Pair
  first_race os = least_pair world later (races world.rows) os

  abbrev first_quarrel : List Open → Option Pair
  first_quarrel os = least_pair world later (quarrels world.rows) os

  -- it is of a frame that was started from all those that are left, and what is found first of those behind it
  pub record IsBest (all rest : List (Scene × Begun)) (os : List Open) (f : Found) : Type 0 where
    pub of : Scene × Begun
    pub one : IsOneOf all of
    pub started : IsStartedFromAll of.0.path rest
    pub frame : f.event.frame.0 ≡ world.number of.0.path
    pub known : path_of frames (world.number of.0.path) ≡ of.0.path
    pub raced : f.race ≡ true → first_race os ≡ Some (told of f)
    pub other : f.race ≡ false → (first_race os ≡ None) × (first_quarrel os ≡ Some (told of f))

  abbrev pub Best : (all rest : List (Scene × Begun)) → List Open → Option Found → Type 0
  Best all rest os None = (first_race os ≡ None) × (first_quarrel os ≡ None)
  Best all rest os (Some f) = IsBest all rest os f

  pub with_none : (test : Open → Place → Place → Bool) (o : Open) (os : List Open) → NoPair o (test o) →
      least_pair world later test (o ∷ os) ≡ least_pair world later test os
  with_none test o os h = ap (λ z. with_items world later o z (least_pair world later test os)) (no_pair_taken o (test o) h)

  pub with_some : (test : Open → Place → Place → Bool) (o : Open) (os : List Open) (u v : Place) → IsFirstPair o (test o) u v →
      least_pair world later test (o ∷ os) ≡ Some (pair_told world later o u v)
  with_some test o os u v h = ap (λ z. with_items world later o z (least_pair world later test os)) (first_pair_taken o (test o) u v h)

  module _ (all rest : List (Scene × Begun)) (os : List Open) (y : Scene × Begun) (one : IsOneOf all y) (below : IsStartedFromAll y.0.path rest) where
    -- the one of this frame
    pub new_best : (g : Found) (a : IsAnswerIn world later frames y (Some g)) → (g.race ≡ false → first_race os ≡ None) → IsBest all rest (open_of y ∷ os) g
    new_best g a none = record {
      of = y;
      one = one;
      started = below;
      frame = a.event g refl;
      known = a.known;
      raced = λ q. with_some (races world.rows) (open_of y) os (place_in g.event) (place_in g.against) (a.found.0 q);
      other = λ q. (
        with_none (races world.rows) (open_of y) os (a.found.1 q).0 ∙ none q,
        with_some (quarrels world.rows) (open_of y) os (place_in g.event) (place_in g.against) (a.found.1 q).1,
      );
    }

    -- the one that was best
    pub old_best : (f : Found) → IsBest all (y ∷ rest) os f → NoPair (open_of y) (races world.rows (open_of y)) →
        (f.race ≡ false → NoPair (open_of y) (quarrels world.rows (open_of y))) → IsBest all rest (open_of y ∷ os) f
    old_best f b raceless quarrelless = record {
      of = b.of;
      one = b.one;
      started = b.started.1;
      frame = b.frame;
      known = b.known;
      raced = λ q. with_none (races world.rows) (open_of y) os raceless ∙ b.raced q;
      other = λ q. (
        with_none (races world.rows) (open_of y) os raceless ∙ (b.other q).0,
        with_none (quarrels world.rows) (open_of y) os (quarrelless q) ∙ (b.other q).1,
      );
    }

    counts : (b c l : Bool) → l ≡ true → (b ≡ false → c ≡ true → ⊥) → (if b then (if c then l else true) else (if c then false else l)) ≡ true
    counts true true l h n = h
    counts true false l h n = refl
    counts false true l h n = absurd (n refl refl)
    counts false false l h n = h

    stays : (b c l : Bool) → b ≡ false → c ≡ true → (if b then (if c then l else true) else (if c then false else l)) ≡ false
    stays b c l h g = ap₂ (λ p q. if p then (if q then l else true) else (if q then false else l)) h g

    two_best : (f g : Found) → IsBest all (y ∷ rest) os f → IsAnswerIn world later frames y (Some g) →
        Best all rest (open_of y ∷ os) (if counts_before frames g f then Some g else Some f)
    two_best f g b a = by_races g.race f.race refl refl
      where
        lesser : is_lesser frames g f ≡ true
        lesser =
            lesser_frame frames f g b.of.0.path y.0.path (ap (path_of frames) b.frame ∙ b.known) (ap (path_of frames) (a.event g refl) ∙ a.known) b.started.0

        take_new : counts_before frames g f ≡ true → (g.race ≡ false → first_race os ≡ None) →
            Best all rest (open_of y ∷ os) (if counts_before frames g f then Some g else Some f)
        take_new h none =
            subst (λ z. Best all rest (open_of y ∷ os) (if z then Some g else Some f)) (sym h) (new_best g a none)

        by_races : (m n : Bool) → g.race ≡ m → f.race ≡ n → Best all rest (open_of y ∷ os) (if counts_before frames g f then Some g else Some f)
        by_races true n p q =
            take_new (counts g.race f.race (is_lesser frames g f) lesser (λ h k. true≢false (sym p ∙ h))) (λ h. absurd (true≢false (sym p ∙ h)))
        by_races false false p q =
            take_new (counts g.race f.race (is_lesser frames g f) lesser (λ h k. true≢false (sym k ∙ q))) (λ h. (b.other q).0)
        by_races false true p q =
            subst (λ z. Best all rest (open_of y ∷ os) (if z then Some g else Some f)) (sym (stays g.race f.race (is_lesser frames g f) p q))
            (old_best f b (a.found.1 p).0 (λ h. absurd (true≢false (sym q ∙ h))))

    one_more : (b r : Option Found) → Best all (y ∷ rest) os b → IsAnswerIn world later frames y r →
        Best all rest (open_of y ∷ os) (first_found frames b r)
    one_more None None b a = (
      with_none (races world.rows) (open_of y) os a.found.0 ∙ b.0,
      with_none (quarrels world.rows) (open_of y) os a.found.1 ∙ b.1,
    )
    one_more None (Some g) b a = new_best g a (λ q. b.0)
    one_more (Some f) None b a = old_best f b a.found.0 (λ q. a.found.1)
    one_more (Some f) (Some g) b a = two_best f g b a

  all_best : (all rest : List (Scene × Begun)) (os : List Open) (rs : List (Option Found)) (b : Option Found) →
      ((x : Scene × Begun) → IsOneOf rest x → IsOneOf all x) → AreNested rest → AreAnswers world later frames rest rs → Best all rest os b →
      Best all [] (all_ending world later rest os) (first_of_all frames b rs)
  all_best all [] os [] b among nested answers best = best
  all_best all (y ∷ rest) os (r ∷ rs) b among (below, nested) (a, answers) best =
      all_best all rest (open_of y ∷ os) rs (first_found frames b r) (λ x h. among x (inr h)) nested answers
      (one_more all rest os y (among y (inl refl)) below b r best a)
  all_best all [] os (r ∷ rs) b among nested answers best = absurd answers
  all_best all (y ∷ rest) os [] b among nested answers best = absurd answers

  pub finding_at : (all : List (Scene × Begun)) (os : List Open) (n : ℕ) (otherwise : Finding) (b : Option Found) → Best all [] os b →
      IsFindingOf world later all n otherwise b (found_in world later os n otherwise)
  finding_at all os n otherwise None best = ap₂ (λ x y. raced_or n x (quarrel_or n y otherwise)) best.0 best.1
  finding_at all os n otherwise (Some f) best = (best.of, best.one, best.frame, by_race f.race refl)
    where
      by_race : (m : Bool) → f.race ≡ m → found_in world later os n otherwise ≡ finding_of world later (open_of best.of) n f
      by_race true q =
          ap (λ x. raced_or n x (quarrel_or n (first_quarrel os) otherwise)) (best.raced q)
          ∙ sym (ap (λ z. if z then Raced (told best.of f) n else Order_dependent (told best.of f) n) q)
      by_race false q =
          ap₂ (λ x y. raced_or n x (quarrel_or n y otherwise)) (best.other q).0 (best.other q).1
          ∙ sym (ap (λ z. if z then Raced (told best.of f) n else Order_dependent (told best.of f) n) q)

pub first_of_frames : FirstOfFrames
first_of_frames world later frames xs rs n otherwise nested answers =
    finding_at world later frames xs (all_ending world later xs []) n otherwise (first_of_all frames None rs)
    (all_best world later frames xs xs [] rs None (λ x h. h) nested answers (refl, refl))
