-- What is kept of loose events stays right, as the run goes on.
use Rattle.std.proofs.Common.{◌≡◌, ⊎_elim, ℕ, suc, ◌≤◌, ◌<◌, ◌-◌, true, List, [], ◌∷◌, ◌++◌, length, take, refl, sym, ap, ◌∙◌, arith, Option, Some, None}
use Rattle.std.proofs.Common.{subst}
use Rattle.std.specs.Prelude.{Box, slice_get}
use Rattle.std.specs.Global.{Global}
use Rattle.std.proofs.lemmas.List.{length_push}
use Rattle.std.proofs.lemmas.Option.{slice_get_within, same_Some}
use Rattle.ub_base.specs.declared.names.Item.{Item}
use Rattle.footprint.specs.declared.foot.Foot.{Foot}
use Rattle.evaluation_log.specs.declared.log.Logged.{Logged}
use Rattle.evaluation_log.specs.declared.log.Segment.{Segment}
use Rattle.run_evaluations.specs.declared.open.Evaluations.{Evaluations}
use Rattle.evaluation_log.specs.Touched.{first_event, touched, body_has, event_has, start_of}
use Rattle.evaluation_log.specs.Clashes.{AreSorted}
use Rattle.evaluation_log.specs.Kept.{Cut, cut_of, AllBelow, IsAdded, AreLike, marks, loose_mark, span_of, own_body}
use Rattle.run_evaluations.specs.Kept.{IsKept, IsFirst, IsLogged, IsSameLog, IsSameRest, IsSameOpen}
use Rattle.run_evaluations.specs.Loose.{IsLooseKept, IsListed, KeepsLoose}
use Rattle.evaluation_log.specs.Loose.{HasRange, HasEvent, Thins, event_of, first_loose, loose_of, loose_from, loose_start_of, loose_foot_of}
use Rattle.evaluation_log.proofs.KeptLemmas.{before_or_past, or_split, or_left, or_right}
use Rattle.evaluation_log.proofs.WholeLemmas.{get_left, get_seam, not_none, start_same, inside, starts_past, starts_top, at_level}
use Rattle.evaluation_log.proofs.LooseWholeLemmas.{listed_by, listed_to, start_by, foot_there, below_or_at, looses_past, right_levels, right_by, right_joined}
use Rattle.evaluation_log.proofs.LooseWholeLemmas.{right_moved, right_logged, right_listed, right_cut}

pub start_marked : (o p : Option Segment) → loose_mark p ≡ loose_mark o → loose_start_of p ≡ loose_start_of o
start_marked None None e = refl
start_marked None (Some t) e = absurd (cc)
start_marked (Some s) None e = absurd (cc)
start_marked (Some s) (Some t) e = ap (λ (m : ℕ × Option (Box Foot Global)). Some m.0) (same_Some _ _ e)

foot_marked : (o p : Option Segment) → loose_mark p ≡ loose_mark o → loose_foot_of p ≡ loose_foot_of o
foot_marked None None e = refl
foot_marked None (Some t) e = absurd (cc)
foot_marked (Some s) None e = absurd (cc)
foot_marked (Some s) (Some t) e = ap (λ (m : ℕ × Option (Box Foot Global)). m.1) (same_Some _ _ e)

pub right_open : (a b : Evaluations) → IsSameOpen a b → IsLooseKept a → IsLooseKept b
right_open a b same r =
    right_moved a.segments.items b.segments.items a.events.items b.events.items a.items.items b.items.items a.loose.items b.loose.items b.levels.items
    b.levels.items
    same.segments same.events same.items same.loose refl
    (right_levels a.segments.items a.events.items a.items.items a.loose.items a.levels.items r b.levels.items (λ d c h. sym (same.cuts d) ∙ h))

pub right_same : (a b : Evaluations) → IsSameLog a b → IsLooseKept a → IsLooseKept b
right_same a b same r =
    right_moved b.segments.items b.segments.items a.events.items b.events.items a.items.items b.items.items a.loose.items b.loose.items a.levels.items
    b.levels.items
    refl same.events same.items same.loose same.levels
    (right_by a.segments.items a.events.items a.items.items a.loose.items a.levels.items r b.segments.items a.events.items
    (λ g. start_by a.loose.items (slice_get a.segments.items g) (slice_get b.segments.items g)
    (start_marked (slice_get a.segments.items g) (slice_get b.segments.items g) (same.lows g)))
    (λ g. start_same a.events.items (slice_get b.segments.items g) (slice_get a.segments.items g) (same.alike g))
    (λ g f h. r.has g f (sym (foot_marked (slice_get a.segments.items g) (slice_get b.segments.items g) (same.lows g)) ∙ h)))

-- two segments begin alike, of which the same is kept
pub record AreAlike (s t : Segment) : Type 0 where
  pub first : t.first ≡ s.first
  pub low : t.loose ≡ s.loose
  pub below : t.loose_foot ≡ s.loose_foot

abbrev pub AlikeAt : List Segment → List Segment → ℕ → Type 0
AlikeAt ss ts g = (s t : Segment) × (slice_get ss g ≡ Some s) × (slice_get ts g ≡ Some t) × AreAlike s t

pub alike_start : (ss ts : List Segment) (es fs : List Logged) (g : ℕ) → AlikeAt ss ts g → start_of ts fs g ≡ start_of ss es g
alike_start ss ts es fs g a = ap (first_event fs) a.3 ∙ a.4.first ∙ sym (ap (first_event es) a.2)

pub alike_low : (ss ts : List Segment) (ls : List ℕ) (g : ℕ) → AlikeAt ss ts g → loose_of ts ls g ≡ loose_of ss ls g
alike_low ss ts ls g a = ap (first_loose ls) a.3 ∙ a.4.low ∙ sym (ap (first_loose ls) a.2)

alike_foot : (ss ts : List Segment) (g : ℕ) → AlikeAt ss ts g → loose_foot_of (slice_get ts g) ≡ loose_foot_of (slice_get ss g)
alike_foot ss ts g a = ap loose_foot_of a.3 ∙ a.4.below ∙ sym (ap loose_foot_of a.2)

pub same_alike : (ss ts : List Segment) (g : ℕ) (s : Segment) → slice_get ss g ≡ Some s → slice_get ts g ≡ slice_get ss g → AlikeAt ss ts g
same_alike ss ts g s at same = (s, s, at, same ∙ at, record { first = refl; low = refl; below = refl })

pub right_at_top : (a b d : Evaluations) (e : Logged) (added : List Item) (last : ℕ) → IsSameRest a b → b.loose.items ≡ a.loose.items →
    IsAdded a.segments.items b.segments.items added → IsLogged b d e added → length a.segments.items ≡ suc last → AllBelow a.levels.items last →
    IsKept a → IsLooseKept a → IsLooseKept d
right_at_top a b d e added last rest same more logged n below w r =
    let ss = a.segments.items in
    let ts = b.segments.items in
    let pair : (g : ℕ) → g ≤ last → AlikeAt ss ts g =
    λ g le. let s = inside ss a.events.items a.items.items a.large.items a.levels.items w g (omega (arith, le, n)) in
    ⊎_elim (λ less. same_alike ss ts g s.0 s.1 (more.others g (omega (arith, less, n))))
    (λ at. let m = more.last g s.0 (omega (arith, at, n)) s.1 in
    (s.0, m.0, s.1, m.1, record { first = m.2.first; low = m.2.low; below = m.2.below }))
    (below_or_at g last (omega (arith, le))) in
    right_moved ts d.segments.items (a.events.items ++ (e ∷ [])) d.events.items (a.items.items ++ added) d.items.items a.loose.items d.loose.items
    a.levels.items d.levels.items logged.segments
    (logged.events ∙ ap (λ (xs : List Logged). xs ++ (e ∷ [])) rest.events)
    (logged.items ∙ ap (λ (xs : List Item). xs ++ added) rest.items) (logged.loose ∙ same) (logged.levels ∙ rest.levels)
    (right_logged ss a.events.items a.items.items a.loose.items a.levels.items r a.large.items w ts last e added (more.count ∙ n) (omega (arith, n))
    (omega (arith, n))
    (λ g le. alike_start ss ts a.events.items (a.events.items ++ (e ∷ [])) g (pair g le))
    (λ g le. alike_low ss ts a.loose.items g (pair g le))
    (λ g f h. let t = foot_there (slice_get ts g) f h in
    let v = slice_get_within ts g t.0 t.1 in
    let m = more.count in
    sym (alike_foot ss ts g (pair g (omega (arith, v, m, n)))) ∙ h)
    below)

pub right_first : (a b d : Evaluations) (s : Segment) (e : Logged) (added : List Item) → IsSameRest a b → b.loose.items ≡ a.loose.items →
    IsFirst a b s added → IsLogged b d e added → IsKept a → IsLooseKept a → IsLooseKept d
right_first a b d s e added rest same new logged w r =
    let ss = a.segments.items in
    let ts = ss ++ (s ∷ []) in
    let last = length ss in
    let n = length_push ss s in
    let seam = get_seam ss s in
    let pair : (g : ℕ) → g < last → AlikeAt ss ts g =
    λ g less. let t = inside ss a.events.items a.items.items a.large.items a.levels.items w g less in
    same_alike ss ts g t.0 t.1 (get_left ss (s ∷ []) g less) in
    right_moved ts d.segments.items (a.events.items ++ (e ∷ [])) d.events.items (a.items.items ++ added) d.items.items a.loose.items d.loose.items
    a.levels.items d.levels.items (logged.segments ∙ new.pushed)
    (logged.events ∙ ap (λ (xs : List Logged). xs ++ (e ∷ [])) rest.events)
    (logged.items ∙ ap (λ (xs : List Item). xs ++ added) rest.items) (logged.loose ∙ same) (logged.levels ∙ rest.levels)
    (right_logged ss a.events.items a.items.items a.loose.items a.levels.items r a.large.items w ts last e added (omega (arith, n)) (omega arith)
    (omega arith)
    (λ g le. ⊎_elim (λ less. alike_start ss ts a.events.items (a.events.items ++ (e ∷ [])) g (pair g less))
    (λ at. ap (first_event (a.events.items ++ (e ∷ []))) (ap (slice_get ts) at ∙ seam) ∙ new.first ∙
    sym (starts_past ss a.events.items g (omega (arith, at))))
    (below_or_at g last (omega (arith, le))))
    (λ g le. ⊎_elim (λ less. alike_low ss ts a.loose.items g (pair g less))
    (λ at. ap (first_loose a.loose.items) (ap (slice_get ts) at ∙ seam) ∙ new.low ∙
    sym (looses_past ss a.events.items a.items.items a.loose.items a.levels.items r g (omega (arith, at))))
    (below_or_at g last (omega (arith, le))))
    (λ g f h. let t = foot_there (slice_get ts g) f h in
    let v = slice_get_within ts g t.0 t.1 in
    ⊎_elim (λ less. sym (alike_foot ss ts g (pair g less)) ∙ h)
    (λ at. not_none (loose_foot_of (slice_get ts g)) f _ (ap loose_foot_of (ap (slice_get ts) at ∙ seam) ∙ new.below) h)
    (below_or_at g last (omega (arith, v, n))))
    (λ k c h. (w.cuts k c h).0))

pub right_join : (a b t d : Evaluations) (at : ℕ) (foot : Option (Box Foot Global)) → at < length a.segments.items → b.segments.items ≡ a.segments.items →
    IsSameRest a b → Thins (loose_of a.segments.items a.loose.items at) a.loose.items b.loose.items → IsSameRest b t → t.loose.items ≡ b.loose.items →
    ((g : ℕ) → AreLike (slice_get b.segments.items g) (slice_get t.segments.items g)) →
    ((g : ℕ) → loose_start_of (slice_get t.segments.items g) ≡ loose_start_of (slice_get b.segments.items g)) →
    ((g : ℕ) → g < at → slice_get t.segments.items g ≡ slice_get b.segments.items g) → IsSameRest t d → d.loose.items ≡ t.loose.items →
    length d.segments.items ≡ suc at → ((g : ℕ) → g < at → slice_get d.segments.items g ≡ slice_get t.segments.items g) →
    marks (slice_get d.segments.items at) ≡ marks (slice_get t.segments.items at) →
    loose_start_of (slice_get d.segments.items at) ≡ loose_start_of (slice_get t.segments.items at) →
    loose_foot_of (slice_get d.segments.items at) ≡ foot →
    ((f : Box Foot Global) → foot ≡ Some f → (b.loose.items ≡ a.loose.items) × (IsLooseKept b →
    HasRange b.events.items b.items.items b.loose.items (loose_of b.segments.items b.loose.items at) (length b.loose.items) f.value)) →
    AreSorted a.segments.items a.events.items 0 → AllBelow a.levels.items at → IsLooseKept a → IsLooseKept d
right_join a b t d at foot within seg rest1 thin rest2 loose2 like2 lows2 others2 rest3 loose3 count others3 begins3 low3 foot3 set sorted below r =
    let ss = a.segments.items in
    let ds = d.segments.items in
    let up : (g : ℕ) → slice_get b.segments.items g ≡ slice_get ss g = λ g. ap (λ (xs : List Segment). slice_get xs g) seg in
    let other : (g : ℕ) → g < at → slice_get ds g ≡ slice_get ss g = λ g less. others3 g less ∙ others2 g less ∙ up g in
    right_moved ds ds a.events.items d.events.items a.items.items d.items.items b.loose.items d.loose.items a.levels.items d.levels.items refl
    (rest3.events ∙ rest2.events ∙ rest1.events) (rest3.items ∙ rest2.items ∙ rest1.items) (loose3 ∙ loose2)
    (rest3.levels ∙ rest2.levels ∙ rest1.levels)
    (right_joined ss a.events.items a.items.items a.loose.items a.levels.items r ds b.loose.items at within sorted count
    (λ g le. ⊎_elim (λ less. ap (first_event a.events.items) (other g less))
    (λ same. let m : marks (slice_get ds g) ≡ marks (slice_get ss g) =
    ap (λ n. marks (slice_get ds n)) same ∙ begins3 ∙ (like2 at).begins ∙ ap marks (up at) ∙ ap (λ n. marks (slice_get ss n)) (sym same) in
    start_same a.events.items (slice_get ds g) (slice_get ss g) m)
    (below_or_at g at (omega (arith, le))))
    (λ g le. ⊎_elim (λ less. ap loose_start_of (other g less))
    (λ same. ap (λ n. loose_start_of (slice_get ds n)) same ∙ low3 ∙ lows2 at ∙ ap loose_start_of (up at) ∙
    ap (λ n. loose_start_of (slice_get ss n)) (sym same))
    (below_or_at g at (omega (arith, le))))
    (λ g less. ap loose_foot_of (other g less)) thin
    (λ f h. let s = set f (sym foot3 ∙ h) in
    let rb = right_moved ss b.segments.items a.events.items b.events.items a.items.items b.items.items a.loose.items b.loose.items a.levels.items
    b.levels.items seg rest1.events rest1.items s.0 rest1.levels r in
    let has = s.1 rb in (
      s.0,
      subst (λ (xs : List Logged). HasRange xs a.items.items a.loose.items (loose_of ss a.loose.items at) (length a.loose.items) f.value) rest1.events
          (subst (λ (xs : List Item). HasRange b.events.items xs a.loose.items (loose_of ss a.loose.items at) (length a.loose.items) f.value) rest1.items
          (subst (λ (xs : List ℕ). HasRange b.events.items b.items.items xs (loose_of ss xs at) (length xs) f.value) s.0
          (subst (λ (xs : List Segment). HasRange b.events.items b.items.items b.loose.items (loose_of xs b.loose.items at) (length b.loose.items) f.value)
          seg has))),
    ))
    below)

pub right_set : (a b : Evaluations) (from : ℕ) → IsSameRest a b → b.loose.items ≡ a.loose.items →
    ((g : ℕ) → AreLike (slice_get a.segments.items g) (slice_get b.segments.items g)) →
    ((g : ℕ) → loose_start_of (slice_get b.segments.items g) ≡ loose_start_of (slice_get a.segments.items g)) → KeepsLoose a b from →
    from ≡ loose_from a.segments.items a.loose.items → IsLooseKept a → IsLooseKept b
right_set a b from rest same like lows feet is r =
    right_moved b.segments.items b.segments.items a.events.items b.events.items a.items.items b.items.items a.loose.items b.loose.items a.levels.items
    b.levels.items
    refl rest.events rest.items same rest.levels
    (right_by a.segments.items a.events.items a.items.items a.loose.items a.levels.items r b.segments.items a.events.items
    (λ g. start_by a.loose.items (slice_get a.segments.items g) (slice_get b.segments.items g) (lows g))
    (λ g. start_same a.events.items (slice_get b.segments.items g) (slice_get a.segments.items g) (like g).begins)
    (λ g f h. ⊎_elim (λ old. r.has g f old)
    (λ new i le less j has.
    let n = new.0 in
    let e : loose_of a.segments.items a.loose.items g ≡ from = ap (loose_of a.segments.items a.loose.items) (omega (arith, n)) ∙ sym is in
    new.1 i (omega (arith, e, le)) j has)
    (feet g f h)))

pub right_listing : (a b : Evaluations) (last : ℕ) → IsSameRest a b → ((g : ℕ) → AreLike (slice_get a.segments.items g) (slice_get b.segments.items g)) →
    IsListed a b → length a.segments.items ≡ suc last → AllBelow a.levels.items last → IsKept a → IsLooseKept a → IsLooseKept b
right_listing a b last rest like listed n below w r =
    let ms = a.loose.items ++ ((length a.events.items - 1) ∷ []) in
    let e : length a.segments.items - 1 ≡ last = omega (arith, n) in
    right_moved b.segments.items b.segments.items a.events.items b.events.items a.items.items b.items.items ms b.loose.items a.levels.items b.levels.items
    refl rest.events rest.items listed.loose rest.levels
    (right_listed a.segments.items a.events.items a.items.items a.loose.items a.levels.items r a.large.items w b.segments.items last n listed.lows
    (λ g. start_same a.events.items (slice_get b.segments.items g) (slice_get a.segments.items g) (like g).begins)
    (λ g less. listed.others g (omega (arith, less, n)))
    (subst (λ (m : ℕ). HasEvent (loose_foot_of (slice_get a.segments.items m)) (loose_foot_of (slice_get b.segments.items m))
    (event_has a.items.items (slice_get a.events.items (length a.events.items - 1)))) e listed.last)
    below)

pub right_cut_off : (a b : Evaluations) (c : Cut) → cut_of (slice_get a.levels.items (length a.levels.items - 1)) ≡ Some c →
    b.segments.items ≡ take c.segments a.segments.items → b.events.items ≡ take c.events a.events.items → b.items.items ≡ take c.items a.items.items →
    b.loose.items ≡ take c.loose a.loose.items → b.levels.items ≡ a.levels.items → IsKept a → IsLooseKept a → IsLooseKept b
right_cut_off a b c top s e i o l w r =
    let t = at_level a.segments.items a.events.items a.items.items a.large.items a.levels.items w
    (slice_get a.levels.items (length a.levels.items - 1)) c top in
    right_moved (take c.segments a.segments.items) b.segments.items (take c.events a.events.items) b.events.items (take c.items a.items.items) b.items.items
    (take c.loose a.loose.items) b.loose.items a.levels.items b.levels.items s e i o l
    (right_cut a.segments.items a.events.items a.items.items a.loose.items a.levels.items r a.large.items w c (length a.levels.items - 1) top
    (λ d x h.
    let v = at_level a.segments.items a.events.items a.items.items a.large.items a.levels.items w (slice_get a.levels.items d) x h in
    let n = slice_get_within a.levels.items d v.0 v.1 in
    w.rise d (length a.levels.items - 1) x c (omega (arith, n)) h top))

-- an event without its body has no more
event_less : (items : List Item) (o p : Option Logged) (j : Item) → span_of p ≡ span_of o → (own_body p j ≡ true → own_body o j ≡ true) →
    event_has items p j ≡ true → event_has items o j ≡ true
event_less items None None j spans body h = h
event_less items (Some d) None j spans body h = absurd (cc)
event_less items None (Some e) j spans body h = absurd (cc)
event_less items (Some d) (Some e) j spans body h =
    let s = same_Some (e.from, e.to) (d.from, d.to) spans in
    let a : e.from ≡ d.from = ap (λ (x : ℕ × ℕ). x.0) s in
    let b : e.to ≡ d.to = ap (λ (x : ℕ × ℕ). x.1) s in
    ⊎_elim
    (λ own. or_left (touched items d.from (d.to - d.from) j) (body_has d.foot j) ((λ i. touched items (sym a i) (sym b i - sym a i) j) ∙ own))
    (λ had. or_right (touched items d.from (d.to - d.from) j) (body_has d.foot j) (body had))
    (or_split (touched items e.from (e.to - e.from) j) (body_has e.foot j) h)

first_size : (fs es : List Logged) (o : Option Segment) → length fs ≡ length es → first_event fs o ≡ first_event es o
first_size fs es None e = e
first_size fs es (Some s) e = refl

pub right_taken : (a b : Evaluations) → b.segments.items ≡ a.segments.items → b.items.items ≡ a.items.items → b.loose.items ≡ a.loose.items →
    b.levels.items ≡ a.levels.items → length b.events.items ≡ length a.events.items →
    ((k : ℕ) → span_of (slice_get b.events.items k) ≡ span_of (slice_get a.events.items k)) →
    ((k : ℕ) (j : Item) → own_body (slice_get b.events.items k) j ≡ true → own_body (slice_get a.events.items k) j ≡ true) → IsLooseKept a → IsLooseKept b
right_taken a b s i o l n spans bodies r =
    right_moved a.segments.items b.segments.items b.events.items b.events.items a.items.items b.items.items a.loose.items b.loose.items a.levels.items
    b.levels.items s refl i o l
    (right_by a.segments.items a.events.items a.items.items a.loose.items a.levels.items r a.segments.items b.events.items
    (λ g. refl) (λ g. first_size b.events.items a.events.items (slice_get a.segments.items g) n)
    (λ g f h i le less j has.
    let t = listed_by b.events.items a.items.items a.loose.items i j has in
    r.has g f h i le less j
    (ap (λ o. event_has a.items.items (event_of a.events.items o) j) t.2 ∙
    event_less a.items.items (slice_get a.events.items t.0) (slice_get b.events.items t.0) j (spans t.0) (bodies t.0 j)
    (ap (λ o. event_has a.items.items o j) t.3 ∙ t.4))))

given_to : (a d f : Evaluations) → d.events.items ≡ a.events.items → d.items.items ≡ a.items.items → d.loose.items ≡ a.loose.items →
    d.levels.items ≡ a.levels.items → length d.segments.items ≡ length a.segments.items →
    ((g : ℕ) → marks (slice_get d.segments.items g) ≡ marks (slice_get a.segments.items g)) →
    ((g : ℕ) → loose_start_of (slice_get d.segments.items g) ≡ loose_start_of (slice_get a.segments.items g)) →
    ((g : ℕ) → g < length a.segments.items - 1 → slice_get d.segments.items g ≡ slice_get a.segments.items g) →
    loose_foot_of (slice_get d.segments.items (length a.segments.items - 1)) ≡ None → f.segments.items ≡ d.segments.items →
    f.items.items ≡ d.items.items → f.loose.items ≡ d.loose.items → f.levels.items ≡ d.levels.items → length f.events.items ≡ length d.events.items →
    ((k : ℕ) → suc k < length d.events.items → slice_get f.events.items k ≡ slice_get d.events.items k) → IsKept a → IsLooseKept a → IsLooseKept f
given_to a d f e1 i1 o1 l1 n1 alike lows others gone s2 i2 o2 l2 n2 others2 w r =
    let ds = d.segments.items in
    let size : length f.events.items ≡ length a.events.items = n2 ∙ ap length e1 in
    right_moved ds f.segments.items f.events.items f.events.items a.items.items f.items.items a.loose.items f.loose.items a.levels.items f.levels.items
    s2 refl (i2 ∙ i1) (o2 ∙ o1) (l2 ∙ l1)
    (right_by a.segments.items a.events.items a.items.items a.loose.items a.levels.items r ds f.events.items
    (λ g. start_by a.loose.items (slice_get a.segments.items g) (slice_get ds g) (lows g))
    (λ g. start_same f.events.items (slice_get ds g) (slice_get a.segments.items g) (alike g) ∙
    first_size f.events.items a.events.items (slice_get a.segments.items g) size)
    (λ g b h i le less j has.
    let s = foot_there (slice_get ds g) b h in
    let v = slice_get_within ds g s.0 s.1 in
    ⊎_elim
    (λ under.
    let t = listed_by f.events.items a.items.items a.loose.items i j has in
    let o = r.own g i t.0 le less t.2 in
    let p = w.filled (suc g) (omega (arith, under)) in
    let q = starts_top a.segments.items a.events.items a.items.items a.large.items a.levels.items w (suc (suc g)) in
    let m = ap length e1 in
    r.has g b (sym (ap loose_foot_of (others g under)) ∙ h) i le less j
    (listed_to a.events.items a.items.items a.loose.items i t.0 t.1 j t.2
    (ap (λ (xs : List Logged). slice_get xs t.0) (sym e1) ∙ sym (others2 t.0 (omega (arith, m, o.1, p, q))) ∙ t.3) t.4))
    (λ more. not_none (loose_foot_of (slice_get ds g)) b _
    (ap (λ x. loose_foot_of (slice_get ds x)) (omega (arith, more, v, n1)) ∙ gone) h)
    (before_or_past g (length a.segments.items - 1))))

pub right_given : (a b d f : Evaluations) → b.segments.items ≡ a.segments.items → b.events.items ≡ a.events.items → b.items.items ≡ a.items.items →
    b.loose.items ≡ a.loose.items → b.levels.items ≡ a.levels.items → IsSameRest b d → d.loose.items ≡ b.loose.items →
    length d.segments.items ≡ length b.segments.items → ((g : ℕ) → marks (slice_get d.segments.items g) ≡ marks (slice_get b.segments.items g)) →
    ((g : ℕ) → loose_start_of (slice_get d.segments.items g) ≡ loose_start_of (slice_get b.segments.items g)) →
    ((g : ℕ) → g < length b.segments.items - 1 → slice_get d.segments.items g ≡ slice_get b.segments.items g) →
    loose_foot_of (slice_get d.segments.items (length b.segments.items - 1)) ≡ None → f.segments.items ≡ d.segments.items →
    f.items.items ≡ d.items.items → f.loose.items ≡ d.loose.items → f.levels.items ≡ d.levels.items → length f.events.items ≡ length d.events.items →
    ((k : ℕ) → suc k < length d.events.items → slice_get f.events.items k ≡ slice_get d.events.items k) → IsKept a → IsLooseKept a → IsLooseKept f
right_given a b d f s1 e1 i1 o1 l1 rest o2 n alike lows others gone s2 i2 o3 l2 n2 others2 w r =
    given_to a d f (rest.events ∙ e1) (rest.items ∙ i1) (o2 ∙ o1) (rest.levels ∙ l1) (n ∙ ap length s1)
    (λ g. alike g ∙ ap (λ (xs : List Segment). marks (slice_get xs g)) s1)
    (λ g. lows g ∙ ap (λ (xs : List Segment). loose_start_of (slice_get xs g)) s1)
    (λ g less. others g (let e = ap length s1 in omega (arith, e, less)) ∙ ap (λ (xs : List Segment). slice_get xs g) s1)
    (ap (λ (xs : List Segment). loose_foot_of (slice_get d.segments.items (length xs - 1))) (sym s1) ∙ gone)
    s2 i2 o3 l2 n2 others2 w r

pub listed_after : (a t d : Evaluations) (at : ℕ) (taken foot : Option (Box Foot Global)) → at ≡ length a.events.items - 1 →
    t.loose.items ≡ a.loose.items ++ (at ∷ []) → t.events.items ≡ a.events.items → t.items.items ≡ a.items.items →
    length t.segments.items ≡ length a.segments.items →
    ((g : ℕ) → loose_start_of (slice_get t.segments.items g) ≡ loose_start_of (slice_get a.segments.items g)) →
    ((g : ℕ) → suc g < length a.segments.items → slice_get t.segments.items g ≡ slice_get a.segments.items g) →
    taken ≡ loose_foot_of (slice_get a.segments.items (length a.segments.items - 1)) → d.loose.items ≡ t.loose.items →
    ((g : ℕ) → loose_start_of (slice_get d.segments.items g) ≡ loose_start_of (slice_get t.segments.items g)) →
    ((g : ℕ) → suc g < length t.segments.items → slice_get d.segments.items g ≡ slice_get t.segments.items g) →
    ((f : Box Foot Global) → loose_foot_of (slice_get d.segments.items (length t.segments.items - 1)) ≡ Some f → foot ≡ Some f) →
    HasEvent taken foot (event_has t.items.items (slice_get t.events.items at)) → IsListed a d
listed_after a t d at taken foot is l1 e1 i1 n1 lows1 others1 given l2 lows2 others2 below set = record {
  loose = l2 ∙ l1 ∙ ap (λ (n : ℕ). a.loose.items ++ (n ∷ [])) is;
  lows = λ g. lows2 g ∙ lows1 g;
  others = λ g less. others2 g (omega (arith, n1, less)) ∙ others1 g less;
  last = λ f h.
      let r = set f (below f (ap (λ (n : ℕ). loose_foot_of (slice_get d.segments.items (n - 1))) n1 ∙ h)) in (
        r.0,
        sym given ∙ r.1,
        r.2,
        λ j has. r.3 j ((λ i. event_has (i1 i) (slice_get (e1 i) (is i)) j) ∙ has),
      );
}
