-- The first conflict of events with those of a list.
use Rattle.std.proofs.Common.{◌≡◌, ◌⊎◌, ⊎_elim, ℕ, ◌≤◌, ◌<◌, ◌+◌, ◌^◌, Bool, true, false, List, length, refl, sym, ap, ◌∙◌, arith, below_more, Option, Some}
use Rattle.std.proofs.Common.{None, Result, Ok, Err, subst}
use Rattle.std.specs.Prelude.{slice_get, IfNone, IfOk}
use Rattle.std.proofs.lemmas.Option.{slice_get_past, slice_get_within, same_Some}
use Rattle.ub_base.specs.declared.names.ObjName.{ObjName}
use Rattle.ub_base.specs.declared.names.Item.{Item}
use Rattle.ub_base.specs.declared.names.Item.TheVariants.{Read, Write, Born, Dies, Alive, Expose, Lookup, Narrow, Input, Output, Ending, Any as AnyItem}
use Rattle.ub_base.specs.Frames.{Row as FrameRow}
use Rattle.c_typed.specs.Tree.{Tree}
use Rattle.c_typed.specs.Order.{Taken}
use Rattle.addr_map.specs.declared.map.Row.{Row}
use Rattle.addr_map.specs.Conflict.{items_conflict, stands_at, is_access}
use Rattle.evaluation_log.specs.declared.found.Found.{Found}
use Rattle.evaluation_log.specs.declared.log.Logged.{Logged}
use Rattle.evaluation_log.specs.declared.sought.Sought.{Sought}
use Rattle.evaluation_log.specs.declared.sought.Sought.TheVariants.{Races, Any}
use Rattle.evaluation_log.specs.Touched.{event_has}
use Rattle.evaluation_log.specs.Clashes.{Clash, NoClash}
use Rattle.evaluation_log.specs.FoundItems.{first_found}
use Rattle.evaluation_log.specs.Loose.{event_of, loose_has, NoLoose}
use Rattle.evaluation_search.specs.declared.log.Place.{Place}
use Rattle.run_evaluations.specs.Below.{is_apart_below, IsListedAt, AreListedWith, AreListed, IsClean, NoneListed}
use Rattle.evaluation_log.proofs.KeptLemmas.{before_or_past}
use Rattle.evaluation_log.proofs.LooseLemmas.{first_none, none_at}
use Rattle.evaluation_search.specs.First.{IsFirstOf, IsOf, IsOfPair, sought_of}
use Rattle.evaluation_search.proofs.FirstLemmas.{alike, range_more}
use Rattle.evaluation_search.proofs.BetweenFirst.{name_there}

-- a conflict of what stands at a place of a range
abbrev pub Within : (ℕ → Found → Type 0) → (from n : ℕ) → Found → Type 0
Within Q from n f = (i : ℕ) × (from ≤ i) × (i < n) × Q i f

-- accesses that race conflict, wherever objects stand
access_conflict : (stands other : ObjName → ℕ → Bool) (i j : Item) → is_access i ≡ true → is_access j ≡ true →
    items_conflict stands i j ≡ items_conflict other i j
access_conflict stands other (Read x a n) (Read y b m) h k = refl
access_conflict stands other (Read x a n) (Write y b m) h k = refl
access_conflict stands other (Write x a n) (Read y b m) h k = refl
access_conflict stands other (Write x a n) (Write y b m) h k = refl
access_conflict stands other (Read x a n) j h k = absurd (cc)
access_conflict stands other (Write x a n) j h k = absurd (cc)
access_conflict stands other i j h k = absurd (cc)

any_clash : (rows : List Row) (sought : Sought) (f g : Item → Bool) (i j : Item) → Clash sought rows f g i j → Clash Any rows f g i j
any_clash rows Races f g i j c = (c.0, c.1, access_conflict (stands_at rows) (λ x n. true) i j c.2 c.3 ∙ c.4)
any_clash rows Any f g i j c = c

module _ (frames : List FrameRow) (rows : List Row) (p : Place) (events : List Logged) (items : List Item) (taken : Taken) (root : Tree) (loose : List ℕ) where
  abbrev Apart : (a b : ℕ) → Type 0
  Apart a b = is_apart_below taken root (slice_get events a) (slice_get events b) ≡ true

  abbrev Pair : (ℕ → ℕ → Type 0) → Found → Type 0
  Pair = IsOfPair frames rows p events items

  -- two events
  pub with_apart : {E : Type 0} (a b : ℕ) (r : Result (Option Found) E) → Apart a b → IfOk r (IsFirstOf frames (IsOf frames rows p events items a b)) →
      IfOk r (IsFirstOf frames (λ f. Apart a b × IsOf frames rows p events items a b f))
  with_apart a b (Err e) apart h = tt
  with_apart a b (Ok o) apart h = alike frames (IsOf frames rows p events items a b) (λ f. Apart a b × IsOf frames rows p events items a b f) o
      (λ f q. (apart, q)) (λ f q. q.1) h

  pub with_none : (a b : ℕ) → (Apart a b → ⊥) → IsFirstOf frames (λ f. Apart a b × IsOf frames rows p events items a b f) None
  with_none a b h f q = h q.0

  -- at a place of the list
  pub listed_at : {E : Type 0} (event i b : ℕ) (r : Result (Option Found) E) → slice_get loose i ≡ Some b →
      IfOk r (IsFirstOf frames (λ f. Apart event b × IsOf frames rows p events items event b f)) →
      IfOk r (IsFirstOf frames (Pair (IsListedAt taken root events loose event i)))
  listed_at event i b (Err e) there h = tt
  listed_at event i b (Ok o) there h = alike frames (λ f. Apart event b × IsOf frames rows p events items event b f)
      (Pair (IsListedAt taken root events loose event i)) o
      (λ f q. (event, b, record { same = refl; there = there; apart = q.0 }, q.1))
      (λ f q.
      let w = q.2 in
      let x : q.1 ≡ b = same_Some q.1 b (sym w.there ∙ there) in (
        (λ j. is_apart_below taken root (slice_get events (sym w.same j)) (slice_get events (sym x j))) ∙ w.apart,
        (subst (λ k. IsOf frames rows p events items event k f) x (subst (λ k. IsOf frames rows p events items k q.1 f) w.same q.3)),
      )) h

  pub listed_none : (event i : ℕ) → slice_get loose i ≡ None → IsFirstOf frames (Pair (IsListedAt taken root events loose event i)) None
  listed_none event i past f q = let e = sym q.2.there ∙ past in absurd (cc)

  pub clean_none : (event : ℕ) → IsClean rows taken root events items event None
  clean_none event h i j c = absurd (cc)

  -- along the list
  pub among_end : (event from n : ℕ) (o : Option Found) → length loose ≤ n →
      IsFirstOf frames (Within (λ i. Pair (IsListedAt taken root events loose event i)) from n) o →
      IsFirstOf frames (Pair (AreListedWith taken root events loose event from)) o
  among_end event from n o past h = alike frames (Within (λ i. Pair (IsListedAt taken root events loose event i)) from n)
      (Pair (AreListedWith taken root events loose event from)) o
      (λ f q. (q.3.0, q.3.1, record { at = q.0; low = q.1; listed = q.3.2 }, q.3.3))
      (λ f q.
      let w = q.2 in
      let l = slice_get_within loose w.at q.1 w.listed.there in
      (w.at, w.low, omega (arith, l, past), (q.0, q.1, w.listed, q.3))) h

  -- none of them clashes
  pub with_clean : (event from : ℕ) → NoLoose rows events items loose from (event_has items (slice_get events event)) →
      IsFirstOf frames (Pair (AreListedWith taken root events loose event from)) None
  with_clean event from none f q =
      let w = q.2 in
      let c = any_clash rows _ _ _ _ _ (of_clash_items f q.0 q.1 q.3) in
      none w.at w.low f.items.0 f.items.1 (
        ap (λ k. event_has items (slice_get events k) f.items.0) (sym w.listed.same) ∙ c.0,
        ap (λ o. event_has items (event_of events o) f.items.1) w.listed.there ∙ c.1,
        c.2,
      )
    where
      of_clash_items : (f : Found) (a b : ℕ) (of : IsOf frames rows p events items a b f) → Clash (sought_of f.race) rows (event_has items (slice_get events a))
          (event_has items (slice_get events b)) f.items.0 f.items.1
      of_clash_items f a b of = of.least.0

  pub clean_by : (event from : ℕ) → NoLoose rows events items loose from (event_has items (slice_get events event)) →
      NoneListed rows taken root events items loose from event
  clean_by event from none i le apart = none i le

  pub none_listed_end : (event from n : ℕ) → length loose ≤ n → ((i : ℕ) → i < n → from ≤ i → IsClean rows taken root events items event (slice_get loose i)) →
      NoneListed rows taken root events items loose from event
  none_listed_end event from n past none i le = ⊎_elim (λ less. none i less le)
      (λ more. subst (IsClean rows taken root events items event) (sym (past_none i (omega (arith, past, more)))) (clean_none event))
      (before_or_past i n)
    where
      past_none : (i : ℕ) → length loose ≤ i → slice_get loose i ≡ None
      past_none i le = slice_get_past loose i le

  -- of each event
  pub below_end : (own from n : ℕ) (o : Option Found) → length events ≤ n →
      IsFirstOf frames (Within (λ k. Pair (AreListedWith taken root events loose k from)) own n) o →
      IsFirstOf frames (Pair (AreListed taken root events loose own from)) o
  below_end own from n o past h = alike frames (Within (λ k. Pair (AreListedWith taken root events loose k from)) own n)
      (Pair (AreListed taken root events loose own from)) o
      (λ f q.
      let same = q.3.2.listed.same in
      let low = q.1 in
      let e = name_there p (slice_get events q.3.0) f.event q.3.3.event in
      let inside = slice_get_within events q.3.0 e.0 e.1 in (
        q.3.0,
        q.3.1,
        record {
          low = omega (arith, same, low);
          within = inside;
          with = subst (λ k. AreListedWith taken root events loose k from q.3.0 q.3.1) (sym same) q.3.2;
        },
        q.3.3,
      ))
      (λ f q.
      let w = q.2 in
      let inside = w.within in
      (q.0, w.low, omega (arith, inside, past), (q.0, q.1, w.with, q.3))) h

  pub past_none : (own from : ℕ) → length loose ≤ from → IsFirstOf frames (Pair (AreListed taken root events loose own from)) None
  past_none own from past f q =
      let w = q.2.with in
      let low = w.low in
      let l = slice_get_within loose w.at q.1 w.listed.there in
      absurd (omega (arith, low, l, past))

  pub past_clean : (event from : ℕ) → length loose ≤ from → NoneListed rows taken root events items loose from event
  past_clean event from past = none_listed_end event from from past (λ i less low. absurd (omega (arith, less, low)))

-- ---- one turn further
pub first_rise : (frames : List FrameRow) (Q : ℕ → Found → Type 0) (from n : ℕ) (best found r : Option Found) → r ≡ first_found frames best found → from ≤ n →
    IsFirstOf frames (Within Q from n) best → IsFirstOf frames (Q n) found → IsFirstOf frames (Within Q from (n + 1)) r
first_rise frames Q from n best found r e le old new =
    subst (IsFirstOf frames (Within Q from (n + 1))) (sym e) (range_more frames Q from n best found le old new)

pub none_rise_by : (frames : List FrameRow) (P : ℕ → Type 0) (best found r : Option Found) (from n : ℕ) → r ≡ first_found frames best found →
    (best ≡ None → (i : ℕ) → i < n → from ≤ i → P i) → (found ≡ None → P n) → r ≡ None → (i : ℕ) → i < n + 1 → from ≤ i → P i
none_rise_by frames P best found r from n e old new none =
    let s = first_none frames best found (sym e ∙ none) in
    below_more _ _ (old s.0) (λ le. new s.1)

pub none_rise : (frames : List FrameRow) (P : ℕ → Type 0) (best found r : Option Found) (from n : ℕ) → r ≡ first_found frames best found →
    (best ≡ None → (i : ℕ) → i < n → from ≤ i → P i) → IfNone found (P n) → r ≡ None → (i : ℕ) → i < n + 1 → from ≤ i → P i
none_rise frames P best found r from n e old new = none_rise_by frames P best found r from n e old (λ h. none_at (P n) found h new)
