-- The first conflict of all frames is what is found first in all of them.
use Rattle.std.proofs.Common.{◌≡◌, inl, inr, Bool, true, false, if◌then◌else◌, List, [], ◌∷◌, Option, Some, None}
use Rattle.std.proofs.Common.{refl, sym, ap, ap₂, subst, ◌∙◌, true≢false}
use Rattle.std.proofs.lemmas.Option.{same_Some}
use Rattle.ub_base.specs.declared.names.Event.{Event}
use Rattle.ub_base.specs.Frames.{Row as FrameRow, path_of}
use Rattle.c_model.specs.FirstFinding.{Pair, least_pair, quarrels, races}
use Rattle.c_model.specs.Moments.{Open}
use Rattle.c_model.specs.Runs.{Entry}
use Rattle.c_model.specs.Steps.{Begun, Scene}
use Rattle.c_model.specs.World.{World}
use Rattle.evaluation_log.specs.FoundItems.{counts_before, is_lesser}
use Rattle.evaluation_log.specs.declared.found.Found.{Found}
use Rattle.finding_laws.specs.FirstPairs.{NoPair}
use Rattle.run_evaluations.specs.FirstAtEnd.{IsConflictAtEnd}
use Rattle.run_evaluations.specs.Told.{Opened}
use Rattle.ending_laws.specs.Ends.{ending_at}
use Rattle.ending_laws.specs.Frames.{AllToldAtEnd, AreNested, FirstOfAll, IsConflictAtLast, IsConflictOfAll, IsOneOf}
use Rattle.ending_laws.specs.Frames.{IsStartedFromAll}
use Rattle.ending_laws.specs.Frames.{ToldAtEnd, all_ending}
use Rattle.ending_laws.proofs.Ending.{describes, end_is_found}
use Rattle.ending_laws.proofs.FirstOnes.{no_quarrel, no_race}
use Rattle.ending_laws.proofs.Nested.{IsBest, finding_at, lesser_frame, new_best, old_best, with_none}

race_first : (b c l : Bool) → b ≡ true → c ≡ false → (if b then (if c then l else true) else (if c then false else l)) ≡ true
race_first b c l h g = ap₂ (λ p q. if p then (if q then l else true) else (if q then false else l)) h g

alike_first : (b c l : Bool) → b ≡ c → l ≡ true → (if b then (if c then l else true) else (if c then false else l)) ≡ true
alike_first true true l h g = g
alike_first true false l h g = refl
alike_first false true l h g = absurd (true≢false (sym h))
alike_first false false l h g = g

module _ (world : World) (trace later : List Entry) (frames : List FrameRow) where
  abbrev open_of : Scene × Begun → Open
  open_of x = ending_at world later x.0 x.1

  abbrev first_race : List Open → Option Pair
  first_race os = least_pair world later (races world.rows) os

  abbrev first_quarrel : List Open → Option Pair
  first_quarrel os = least_pair world later (quarrels world.rows) os

  abbrev Told : Scene × Begun → Opened → Type 0
  Told x t = ToldAtEnd world trace later frames x t

  -- ---- one of them
  abbrev Own : Opened → Found → Type 0
  Own t f = IsConflictAtLast frames world.rows t f

  -- of the evaluation that was told last
  last_of : (x : Scene × Begun) (t : Opened) (a : Told x t) (f : Found) → Own t f → IsConflictAtEnd frames world.rows t a.told.last f
  last_of x t a f q = subst (λ z. IsConflictAtEnd frames world.rows t z f) (same_Some q.0 a.told.last (sym q.1 ∙ a.told.stands.at)) q.2

  own_of : (x : Scene × Begun) (t : Opened) (a : Told x t) (f : Found) → IsConflictAtEnd frames world.rows t a.told.last f → Own t f
  own_of x t a f q = (a.told.last, a.told.stands.at, q)

  -- its events are of the frame
  frame_of : (x : Scene × Begun) (t : Opened) (a : Told x t) (f : Found) → Own t f → f.event.frame.0 ≡ world.number x.0.path
  frame_of x t a f q =
      let s = (describes world trace later frames x.0 x.1 t a.told).sound f (last_of x t a f q) in
      ap (λ (v : Event). v.frame.0) s.of.event ∙ a.told.records.frame

  raceless : (x : Scene × Begun) (t : Opened) (a : Told x t) → ((g : Found) → Own t g → g.race ≡ true → ⊥) → NoPair (open_of x) (races world.rows (open_of x))
  raceless x t a none =
      no_race frames world.rows t (open_of x) (IsConflictAtEnd frames world.rows t a.told.last) (describes world trace later frames x.0 x.1 t a.told)
      (λ g q. none g (own_of x t a g q))

  quarrelless : (x : Scene × Begun) (t : Opened) (a : Told x t) → ((g : Found) → Own t g → g.race ≡ false → ⊥) →
      NoPair (open_of x) (quarrels world.rows (open_of x))
  quarrelless x t a none =
      no_quarrel frames world.rows t (open_of x) (IsConflictAtEnd frames world.rows t a.told.last) (describes world trace later frames x.0 x.1 t a.told)
      (λ g q. none g (own_of x t a g q))

  -- ---- where there is none
  none_first : (rest : List (Scene × Begun)) (ts : List Opened) (os : List Open) → AllToldAtEnd world trace later frames rest ts →
      ((g : Found) → IsConflictOfAll frames world.rows ts g → ⊥) → (first_race os ≡ None) × (first_quarrel os ≡ None) →
      (first_race (all_ending world later rest os) ≡ None) × (first_quarrel (all_ending world later rest os) ≡ None)
  none_first [] [] os a none h = h
  none_first (y ∷ ys) (t ∷ us) os (a, b) none h =
      none_first ys us (open_of y ∷ os) b (λ g q. none g (inr q)) (
        with_none world later frames (races world.rows) (open_of y) os (raceless y t a (λ g q r. none g (inl q))) ∙ h.0,
        with_none world later frames (quarrels world.rows) (open_of y) os (quarrelless y t a (λ g q r. none g (inl q))) ∙ h.1,
      )
  none_first [] (t ∷ us) os a none h = absurd a
  none_first (y ∷ ys) [] os a none h = absurd a

  -- ---- where there is a first one
  module _ (f : Found) (all : List (Scene × Begun)) (First : Found → Type 0) (least : (g : Found) → First g → counts_before frames g f ≡ false) where
    abbrev Best : List (Scene × Begun) → List Open → Type 0
    Best rest os = IsBest world later frames all rest os f

    -- a race of any frame counts before it, if it is none
    no_race_yet : (g : Found) → First g → f.race ≡ false → g.race ≡ true → ⊥
    no_race_yet g q r is = true≢false (sym (race_first g.race f.race (is_lesser frames g f) is r) ∙ least g q)

    -- in frames further out nothing is found that counts
    module _ (y : Scene × Begun) (ys : List (Scene × Begun)) (t : Opened) (os : List Open) (a : Told y t) (b : Best (y ∷ ys) os)
        (own : (g : Found) → Own t g → First g) where
      lesser : (g : Found) → Own t g → is_lesser frames g f ≡ true
      lesser g q =
          lesser_frame frames f g b.of.0.path y.0.path (ap (path_of frames) b.frame ∙ b.known) (ap (path_of frames) (frame_of y t a g q) ∙ a.known)
          b.started.0

      not_alike : (g : Found) → Own t g → g.race ≡ f.race → ⊥
      not_alike g q r = true≢false (sym (alike_first g.race f.race (is_lesser frames g f) r (lesser g q)) ∙ least g (own g q))

      no_races : NoPair (open_of y) (races world.rows (open_of y))
      no_races = raceless y t a (λ g q is. by_race f.race refl g q is)
        where
          by_race : (c : Bool) → f.race ≡ c → (g : Found) → Own t g → g.race ≡ true → ⊥
          by_race true r g q is = not_alike g q (is ∙ sym r)
          by_race false r g q is = no_race_yet g (own g q) r is

      no_quarrels : f.race ≡ false → NoPair (open_of y) (quarrels world.rows (open_of y))
      no_quarrels r = quarrelless y t a (λ g q is. not_alike g q (is ∙ sym r))

      further : IsOneOf all y → IsStartedFromAll y.0.path ys → Best ys (open_of y ∷ os)
      further one below = old_best world later frames all ys os y one below f b no_races no_quarrels

    behind : (rest : List (Scene × Begun)) (ts : List Opened) (os : List Open) → ((x : Scene × Begun) → IsOneOf rest x → IsOneOf all x) →
        AreNested rest → AllToldAtEnd world trace later frames rest ts → ((g : Found) → IsConflictOfAll frames world.rows ts g → First g) → Best rest os →
        Best [] (all_ending world later rest os)
    behind [] [] os among nested a own b = b
    behind (y ∷ ys) (t ∷ us) os among (below, nested) (a, rest) own b =
        behind ys us (open_of y ∷ os) (λ x h. among x (inr h)) nested rest (λ g q. own g (inr q))
        (further y ys t os a b (λ g q. own g (inl q)) (among y (inl refl)) below)
    behind [] (t ∷ us) os among nested a own b = absurd a
    behind (y ∷ ys) [] os among nested a own b = absurd a

    -- up to its own
    up_to : (rest : List (Scene × Begun)) (ts : List Opened) (os : List Open) → ((x : Scene × Begun) → IsOneOf rest x → IsOneOf all x) →
        AreNested rest → AllToldAtEnd world trace later frames rest ts → ((g : Found) → IsConflictOfAll frames world.rows ts g → First g)
        → IsConflictOfAll frames world.rows ts f → (f.race ≡ false → first_race os ≡ None) → Best [] (all_ending world later rest os)
    up_to [] [] os among nested a own q none = absurd q
    up_to (y ∷ ys) (t ∷ us) os among (below, nested) (a, rest) own (inl q) none =
        behind ys us (open_of y ∷ os) (λ x h. among x (inr h)) nested rest (λ g c. own g (inr c))
        (new_best world later frames all ys os y (among y (inl refl)) below f
        (record {
          found = (end_is_found world trace later frames y.0 y.1 t (Some f) a.told
              (last_of y t a f q, λ g c. least g (own g (inl (own_of y t a g c))))).0;
          event = λ g is. subst (λ (z : Found). z.event.frame.0 ≡ world.number y.0.path) (same_Some f g is) (frame_of y t a f q);
          known = a.known;
        }) none)
    up_to (y ∷ ys) (t ∷ us) os among (below, nested) (a, rest) own (inr q) none =
        up_to ys us (open_of y ∷ os) (λ x h. among x (inr h)) nested rest (λ g c. own g (inr c)) q
        (λ r. with_none world later frames (races world.rows) (open_of y) os (raceless y t a (λ g c is. no_race_yet g (own g (inl c)) r is)) ∙ none r)
    up_to [] (t ∷ us) os among nested a own q none = absurd a
    up_to (y ∷ ys) [] os among nested a own q none = absurd a

pub first_of_all : FirstOfAll
first_of_all world trace later frames xs ts None n otherwise nested a none =
    finding_at world later frames xs (all_ending world later xs []) n otherwise None
    (none_first world trace later frames xs ts [] a none (refl, refl))
first_of_all world trace later frames xs ts (Some f) n otherwise nested a (q, least) =
    finding_at world later frames xs (all_ending world later xs []) n otherwise (Some f)
    (up_to world trace later frames f xs (IsConflictOfAll frames world.rows ts) least xs ts [] (λ x h. h) nested a (λ g c. c) q (λ r. refl))
