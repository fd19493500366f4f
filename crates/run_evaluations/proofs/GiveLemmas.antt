-- What was told is followed, as a frame ends and the event that started it takes what the frame touched.
use Rattle.std.proofs.Common.{◌≡◌, ◌⊎◌, inl, inr, ⊎_elim, ℕ, zero, suc, ◌≤◌, ◌<◌, ◌+◌, ◌-◌, Bool, true, false, List, [], ◌∷◌, ◌++◌, length, take}
use Rattle.std.proofs.Common.{refl, sym, ap, ◌∙◌, arith, Option, Some, None, subst, length-append}
use Rattle.std.specs.Prelude.{slice_get}
use Rattle.std.proofs.lemmas.Option.{slice_get_cases, slice_get_within, same_Some}
use Rattle.ub_base.specs.declared.names.Item.{Item}
use Rattle.c_typed.specs.declared.tree.Place.{Place}
use Rattle.c_typed.specs.Order.{place}
use Rattle.evaluation_log.specs.declared.log.Logged.{Logged}
use Rattle.evaluation_log.specs.declared.log.Segment.{Segment}
use Rattle.evaluation_log.specs.Touched.{first_event, start_of, touched, body_has}
use Rattle.evaluation_log.specs.Kept.{Cut, cut_of, base_of, marks, own_body, span_of}
use Rattle.evaluation_log.specs.Loose.{loose_of, loose_start_of, Thins}
use Rattle.evaluation_log.specs.Ways.{node_of}
use Rattle.evaluation_log.proofs.KeptLemmas.{before_or_past}
use Rattle.evaluation_log.proofs.LooseWholeLemmas.{start_by}
use Rattle.evaluation_log.proofs.WholeLemmas.{get_left, get_right, get_take, take_part, inside, start_same, starts_past, starts_rise}
use Rattle.run_evaluations.specs.declared.open.Evaluations.{Evaluations}
use Rattle.run_evaluations.specs.Kept.{IsKept, IsSameLog, IsSameRest}
use Rattle.run_evaluations.specs.Listed.{IsOpenIn, AnyEvent}
use Rattle.run_evaluations.specs.Loose.{IsFull, IsLooseKept}
use Rattle.run_evaluations.specs.Scopes.{place_of}
use Rattle.run_evaluations.specs.Told.{Evaluation, Opened, given, last_given, settled}
use Rattle.run_evaluations.specs.Follows.{all_done, scopes_of, seen, name_of, IsFrame, AreFrames, Holds, AreAll, Follows, HasStarted}
use Rattle.run_evaluations.specs.Ways.{IsSameUnder}
use Rattle.run_evaluations.proofs.FollowLemmas.{SameBelow, frames_below, holds_below}
use Rattle.run_evaluations.proofs.FrameLemmas.{with_none, holds_tail, top_there, base_cut, none_open}
use Rattle.run_evaluations.proofs.FullLemmas.{looses_up, low_some}
use Rattle.run_evaluations.proofs.ListedLemmas.{all_by, level_within, node_within}
use Rattle.run_evaluations.proofs.LooseWholeLemmas.{start_marked}
use Rattle.run_evaluations.proofs.ToldLemmas.{full_all, rest_after}

-- ---- the frame on top ends
module _ (a b : Evaluations) (t : Opened) (ts : List Opened) (f : Follows (settled t ∷ ts) a) (k : ℕ) (last : k ≡ length a.levels.items - 1)
    (segments : b.segments.items ≡ a.segments.items) (events : b.events.items ≡ a.events.items) (items : b.items.items ≡ a.items.items)
    (loose : b.loose.items ≡ a.loose.items) (levels : b.levels.items ≡ take k a.levels.items) where
  k_is : k ≡ length ts
  k_is = let n = f.all.count in omega (arith, last, n)

  level_old : (d : ℕ) → d < length ts → slice_get b.levels.items d ≡ slice_get a.levels.items d
  level_old d less = ap (λ ls. slice_get ls d) levels ∙ get_take k a.levels.items d (let e = k_is in omega (arith, e, less))

  none_left : length a.segments.items ≤ base_of a.levels.items
  none_left =
      let top = top_there a f.holds.kept (length ts) f.all.count in
      let from = f.holds.frames.0.begins top.0 top.1 in
      let e = f.all.events in
      let size = ap length (with_none (all_done ts)) in
      none_open a f.holds.kept (length ts) f.all.count (omega (arith, from, e, size))

  opens_old : (d g m : ℕ) → d < length ts → IsOpenIn b.levels.items d g → node_of (slice_get a.segments.items g) ≡ Some m → IsOpenIn a.levels.items d g
  opens_old d g m less o h = record {
    cut = o.cut;
    there = sym (ap cut_of (level_old d less)) ∙ o.there;
    low = o.low;
    high = λ n c above at.
        ⊎_elim
        (λ below. o.high n c above (ap cut_of (level_old n below) ∙ at))
        (λ past.
        let w = level_within a.levels.items n c at in
        let count = f.all.count in
        let n_is : n ≡ length ts = omega (arith, w, count, past) in
        let top = top_there a f.holds.kept (length ts) f.all.count in
        let e = base_cut a f.holds.kept (length ts) f.all.count in
        let q = ap (λ (x : Cut). x.segments) (same_Some top.0 c (sym top.1 ∙ (ap (λ x. cut_of (slice_get a.levels.items x)) (sym n_is) ∙ at))) in
        let i = node_within a.segments.items g m h in
        let left = none_left in
        omega (arith, e, q, i, left))
        (before_or_past n (length ts));
  }

  pub follow_popped : IsKept b → IsLooseKept b → Follows ts b
  follow_popped kept loose_kept =
      let e = f.all.events in
      let size = ap length (with_none (all_done ts)) in
      let past = starts_past a.segments.items a.events.items (length a.segments.items) (omega arith) in
      let count = f.all.count in
      record {
        holds = holds_below a b (length ts) (length a.segments.items) (record {
          frames = record {
            names = λ d less. ap name_of (level_old d less);
            cuts = λ d less. ap cut_of (level_old d less);
            opens = λ d g m less o h.
                let old = ap (λ xs. node_of (slice_get xs g)) (sym segments) ∙ h in
                (opens_old d g m less o old, node_within a.segments.items g m old);
            nodes = λ g less. ap (λ xs. node_of (slice_get xs g)) segments;
          };
          starts = λ g le. (λ i. start_of (segments i) (events i) g);
          rise = λ g le. starts_rise a.segments.items a.events.items a.items.items a.large.items a.levels.items f.holds.kept g (length a.segments.items) le;
          lows = λ g le. (λ i. loose_of (segments i) (loose i) g);
          lifts = λ g le. looses_up a f.holds.loose g (length a.segments.items) le;
          loose = λ i less. ap (λ xs. slice_get xs i) loose;
          events = λ x less. (λ i. seen (items i) (slice_get (events i) x));
        }) ts (omega arith) (omega (arith, past, e, size)) kept loose_kept (holds_tail a (settled t) ts f.holds);
        all = record {
          count = ap length levels ∙ take_part k a.levels.items (omega (arith, last)) ∙ k_is;
          events = ap length events ∙ (e ∙ size);
        };
      }

-- ---- the last evaluation takes what the frame touched that it started
module _ (body : Item → Bool) where
  given_count : (ys : List Evaluation) → length (last_given body ys) ≡ length ys
  given_count [] = refl
  given_count (y ∷ []) = refl
  given_count (y ∷ z ∷ zs) = let e = given_count (z ∷ zs) in omega (arith, e)

  given_other : (ys : List Evaluation) (k : ℕ) → suc k < length ys → slice_get (last_given body ys) k ≡ slice_get ys k
  given_other [] k less = absurd (omega (arith, less))
  given_other (y ∷ []) k less = absurd (omega (arith, less))
  given_other (y ∷ z ∷ zs) zero less = refl
  given_other (y ∷ z ∷ zs) (suc k) less = given_other (z ∷ zs) k (omega (arith, less))

  abbrev with_body : Evaluation → Evaluation
  with_body e = record e { body = body }

  given_end : (ys : List Evaluation) (k : ℕ) (e : Evaluation) → suc k ≡ length ys → slice_get ys k ≡ Some e →
      slice_get (last_given body ys) k ≡ Some (with_body e)
  given_end [] k e n h = absurd (omega (arith, n))
  given_end (y ∷ []) zero e n h = ap (λ (x : Evaluation). Some (with_body x)) (same_Some y e h)
  given_end (y ∷ []) (suc k) e n h = absurd (omega (arith, n))
  given_end (y ∷ z ∷ zs) zero e n h = absurd (omega (arith, n))
  given_end (y ∷ z ∷ zs) (suc k) e n h = given_end (z ∷ zs) k e (omega (arith, n)) h

  sum_is : (k n : ℕ) → n ≤ k → n + (k - n) ≡ k
  sum_is k n le = omega (arith, le)

  joined_other : (xs ys : List Evaluation) (k : ℕ) → suc k < length (xs ++ ys) → slice_get (xs ++ last_given body ys) k ≡ slice_get (xs ++ ys) k
  joined_other xs ys k less =
      ⊎_elim
      (λ low. get_left xs (last_given body ys) k low ∙ sym (get_left xs ys k low))
      (λ past.
      let n = length-append xs ys in
      let e = sum_is k (length xs) past in
      ap (slice_get (xs ++ last_given body ys)) (sym e) ∙ (get_right xs (last_given body ys) (k - length xs)
      ∙ (given_other ys (k - length xs) (omega (arith, n, less, past)) ∙ (sym (get_right xs ys (k - length xs)) ∙ ap (slice_get (xs ++ ys)) e))))
      (before_or_past k (length xs))

  joined_end : (xs ys : List Evaluation) (k : ℕ) (e : Evaluation) → 0 < length ys → suc k ≡ length (xs ++ ys) → slice_get (xs ++ ys) k ≡ Some e →
      slice_get (xs ++ last_given body ys) k ≡ Some (with_body e)
  joined_end xs ys k e some n h =
      let size = length-append xs ys in
      let past : length xs ≤ k = omega (arith, size, n, some) in
      let s = sum_is k (length xs) past in
      ap (slice_get (xs ++ last_given body ys)) (sym s) ∙ (get_right xs (last_given body ys) (k - length xs)
      ∙ given_end ys (k - length xs) e (omega (arith, size, n, past)) (sym (get_right xs ys (k - length xs)) ∙ (ap (slice_get (xs ++ ys)) s ∙ h)))

  seen_given : (is : List Item) (o p : Option Logged) (e : Evaluation) → seen is o ≡ Some e → place_of p ≡ place_of o → span_of p ≡ span_of o →
      ((j : Item) → own_body p j ≡ body j) → seen is p ≡ Some (with_body e)
  seen_given is None p e h places spans has = absurd (cc)
  seen_given is (Some d) None e h places spans has = absurd (cc)
  seen_given is (Some d) (Some x) e h places spans has =
      let at = same_Some (place x.node x.kind) (place d.node d.kind) places in
      let span = same_Some (x.from, x.to) (d.from, d.to) spans in
      let old = same_Some _ e h in
      (λ i. Some (record { place = at i; own = touched is (span i).0 ((span i).1 - (span i).0); body = λ j. has j i }))
      ∙ (λ i. Some (record { place = (old i).place; own = (old i).own; body = body }))

module _ (a d : Evaluations) (t : Opened) (ts : List Opened) (f : Follows (t ∷ ts) a) (started : HasStarted t ts) (body : Item → Bool)
    (levels : d.levels.items ≡ a.levels.items) (items : d.items.items ≡ a.items.items) (loose : d.loose.items ≡ a.loose.items)
    (nodes : (g : ℕ) → node_of (slice_get d.segments.items g) ≡ node_of (slice_get a.segments.items g))
    (alike : (g : ℕ) → marks (slice_get d.segments.items g) ≡ marks (slice_get a.segments.items g))
    (lows : (g : ℕ) → loose_start_of (slice_get d.segments.items g) ≡ loose_start_of (slice_get a.segments.items g))
    (count : length d.events.items ≡ length a.events.items)
    (spans : (k : ℕ) → span_of (slice_get d.events.items k) ≡ span_of (slice_get a.events.items k))
    (others : (k : ℕ) → suc k < length a.events.items → slice_get d.events.items k ≡ slice_get a.events.items k)
    (places : (k : ℕ) → place_of (slice_get d.events.items k) ≡ place_of (slice_get a.events.items k))
    (has : (k : ℕ) (j : Item) → suc k ≡ length a.events.items → own_body (slice_get d.events.items k) j ≡ body j) where
  sized : (o : Option Segment) → first_event d.events.items o ≡ first_event a.events.items o
  sized None = count
  sized (Some s) = refl

  full_given : IsFull (scopes_of (t ∷ ts)) d
  full_given =
      all_by a.segments.items a.events.items a.loose.items a.levels.items (scopes_of (t ∷ ts)) d.segments.items d.events.items d.loose.items d.levels.items
      AnyEvent (full_all a t ts f) loose (λ g m h. sym (nodes g) ∙ h)
      (λ g. sized (slice_get d.segments.items g) ∙ start_same a.events.items (slice_get d.segments.items g) (slice_get a.segments.items g) (alike g))
      (λ g. start_by a.loose.items (slice_get a.segments.items g) (slice_get d.segments.items g) (lows g))
      (λ k u h. sym (places k) ∙ h) (λ x g m h o. subst (λ ls. IsOpenIn ls x g) levels o)

  abbrev before : List Evaluation
  before = all_done ts

  no_last : (k : ℕ) → suc k ≡ length (before ++ t.done) → 0 < length t.done
  no_last k n = go t.done refl
    where
      go : (ys : List Evaluation) → t.done ≡ ys → 0 < length t.done
      go [] e = absurd (
          let z = ap length (ap (λ xs. xs ++ t.done) (started e) ∙ e) in
          omega (arith, n, z))
      go (y ∷ ys) e = let z = ap length e in omega (arith, z)

  events_given : (k : ℕ) → k < length (before ++ last_given body t.done) →
      seen d.items.items (slice_get d.events.items k) ≡ slice_get (before ++ last_given body t.done) k
  events_given k less =
      let n = f.all.events in
      let x = length-append before t.done in
      let y = length-append before (last_given body t.done) in
      let z = given_count body t.done in
      let in_old : k < length (before ++ t.done) = omega (arith, less, x, y, z) in
      ap (λ is. seen is (slice_get d.events.items k)) items
      ∙ ⊎_elim
      (λ early. ap (seen a.items.items) (others k (omega (arith, n, early))) ∙ (f.holds.events k in_old ∙ sym (joined_other body before t.done k early)))
      (λ late.
      let end : suc k ≡ length (before ++ t.done) = omega (arith, late, in_old) in
      let e = one_at (before ++ t.done) k in_old in
      seen_given body a.items.items (slice_get a.events.items k) (slice_get d.events.items k) e.0 (f.holds.events k in_old ∙ e.1) (places k) (spans k)
      (λ j. has k j (omega (arith, end, n)))
      ∙ sym (joined_end body before t.done k e.0 (no_last k end) end e.1))
      (before_or_past (suc k) (length (before ++ t.done)))
    where
      one_at : (xs : List Evaluation) (k : ℕ) → k < length xs → (e : Evaluation) × (slice_get xs k ≡ Some e)
      one_at xs k less = ⊎_elim (λ one. (one.0, one.2)) (λ past. absurd (let p = past.0 in omega (arith, p, less))) (slice_get_cases xs k).1

  pub follow_given : IsKept d → IsLooseKept d → Follows (given body t ∷ ts) d
  follow_given kept loose_kept =
      let n = f.all.events in
      let x = length-append before t.done in
      let y = length-append before (last_given body t.done) in
      let z = given_count body t.done in
      record {
        holds = record {
          kept = kept;
          loose = loose_kept;
          events = events_given;
          full = λ u less. full_given u;
          frames = frames_below a d (length (t ∷ ts)) (length a.segments.items) (record {
            names = λ u less. ap (λ ls. name_of (slice_get ls u)) levels;
            cuts = λ u less. ap (λ ls. cut_of (slice_get ls u)) levels;
            opens = λ u g m less o h. (subst (λ ls. IsOpenIn ls u g) levels o, node_within a.segments.items g m (sym (nodes g) ∙ h));
            nodes = λ g less. nodes g;
          }) (given body t ∷ ts) (omega arith) (
            record {
              named = f.holds.frames.0.named;
              begins = f.holds.frames.0.begins;
              parts = f.holds.frames.0.parts;
              beside = f.holds.frames.0.beside;
            },
            f.holds.frames.1,
          );
        };
        all = record { count = ap length levels ∙ f.all.count; events = omega (arith, count, n, x, y, z) };
      }

-- ---- below the frame on top
pub under_none : (a : Evaluations) → IsSameUnder a a
under_none a = record {
  rest = record { events = refl; items = refl; large = refl; levels = refl };
  starts = λ g le. refl;
  nodes = λ g less. refl;
  lows = λ g le. refl;
  loose = λ i less. refl;
}

pub under_after : (a b d : Evaluations) → IsSameUnder a b → IsSameUnder b d → IsSameUnder a d
under_after a b d first second =
    let base : base_of b.levels.items ≡ base_of a.levels.items = ap base_of first.rest.levels in
    record {
      rest = rest_after a b d first.rest second.rest;
      starts = λ g le. second.starts g (omega (arith, base, le)) ∙ first.starts g le;
      nodes = λ g less. second.nodes g (omega (arith, base, less)) ∙ first.nodes g less;
      lows = λ g le. second.lows g (omega (arith, base, le)) ∙ first.lows g le;
      loose = λ i less.
          let e = first.lows (base_of a.levels.items) (omega arith) in
          let q = ap (loose_of b.segments.items b.loose.items) base in
          second.loose i (omega (arith, q, e, less)) ∙ first.loose i less;
    }

pub under_joined : (a b d : Evaluations) (at : ℕ) → IsKept a → IsLooseKept a → base_of a.levels.items ≤ at → at < length a.segments.items → IsSameLog a b →
    IsSameRest b d → ((g : ℕ) → g < at → slice_get d.segments.items g ≡ slice_get b.segments.items g) →
    marks (slice_get d.segments.items at) ≡ marks (slice_get b.segments.items at) →
    loose_start_of (slice_get d.segments.items at) ≡ loose_start_of (slice_get b.segments.items at) →
    Thins (loose_of b.segments.items b.loose.items at) b.loose.items d.loose.items → IsSameUnder a d
under_joined a b d at w r low within same rest others begins loose_begins thins =
    let rests = rest_after a b d (record { events = same.events; items = same.items; large = same.large; levels = same.levels }) rest in
    let marked : (g : ℕ) → g ≤ at → marks (slice_get d.segments.items g) ≡ marks (slice_get a.segments.items g) =
    λ g le. ⊎_elim (λ less. ap marks (others g less) ∙ same.alike g)
    (λ past. let e : g ≡ at = omega (arith, past, le) in
    subst (λ x. marks (slice_get d.segments.items x) ≡ marks (slice_get a.segments.items x)) (sym e) (begins ∙ same.alike at))
    (before_or_past g at) in
    let low_is : (g : ℕ) → loose_start_of (slice_get b.segments.items g) ≡ loose_start_of (slice_get a.segments.items g) =
    λ g. start_marked (slice_get a.segments.items g) (slice_get b.segments.items g) (same.lows g) in
    let lowered : (g : ℕ) → g ≤ at → loose_start_of (slice_get d.segments.items g) ≡ loose_start_of (slice_get a.segments.items g) =
    λ g le. ⊎_elim (λ less. ap loose_start_of (others g less) ∙ low_is g)
    (λ past. let e : g ≡ at = omega (arith, past, le) in
    subst (λ x. loose_start_of (slice_get d.segments.items x) ≡ loose_start_of (slice_get a.segments.items x)) (sym e) (loose_begins ∙ low_is at))
    (before_or_past g at) in
    record {
      rest = rests;
      starts = λ g le. ap (λ es. first_event es (slice_get d.segments.items g)) rests.events
          ∙ start_same a.events.items (slice_get d.segments.items g) (slice_get a.segments.items g) (marked g (omega (arith, le, low)));
      nodes = λ g less. ap node_of (others g (omega (arith, less, low))) ∙ same.nodes g;
      lows = λ g le.
          let s = inside a.segments.items a.events.items a.items.items a.large.items a.levels.items w g (omega (arith, le, low, within)) in
          low_some a.loose.items d.loose.items (slice_get a.segments.items g) (slice_get d.segments.items g) s.0 s.1 (lowered g (omega (arith, le, low)));
      loose = λ i less.
          let u = looses_up a r (base_of a.levels.items) at low in
          let s = inside a.segments.items a.events.items a.items.items a.large.items a.levels.items w at within in
          let e = low_some a.loose.items b.loose.items (slice_get a.segments.items at) (slice_get b.segments.items at) s.0 s.1 (low_is at) in
          thins.before i (omega (arith, less, u, e)) ∙ ap (λ ls. slice_get ls i) same.loose;
    }
