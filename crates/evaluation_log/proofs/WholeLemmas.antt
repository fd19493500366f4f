-- What is kept of segments stays right, as the log goes on.
use Rattle.std.proofs.Common.{◌≡◌, ◌≢◌, ◌⊎◌, inl, inr, ⊎_elim, ℕ, zero, suc, ◌≤◌, ◌<◌, ◌+◌, ◌-◌, Bool, true, false, not, ◌&&◌, List, [], ◌∷◌, ◌++◌, length}
use Rattle.std.proofs.Common.{take, refl, sym, ap, ◌∙◌, arith, Option, Some, None, subst, length-append, length-take}
use Rattle.std.specs.Prelude.{Box, slice_get}
use Rattle.std.specs.Global.{Global}
use Rattle.std.proofs.lemmas.List.{length_push}
use Rattle.std.proofs.lemmas.Option.{slice_get_cases, slice_get_past, slice_get_within, same_Some}
use Rattle.ub_base.specs.declared.names.Item.{Item}
use Rattle.ub_base.specs.declared.names.Item.TheVariants.{Read, Alive}
use Rattle.footprint.specs.declared.foot.Foot.{Foot}
use Rattle.footprint.specs.Holds.{holds, stands_for}
use Rattle.evaluation_log.specs.declared.log.Logged.{Logged}
use Rattle.evaluation_log.specs.declared.log.Segment.{Segment}
use Rattle.evaluation_log.specs.declared.level.Level.{Level}
use Rattle.evaluation_log.specs.Touched.{first_event, some_stands, touched, body_has, event_has, start_of}
use Rattle.evaluation_log.specs.Kept.{is_harmless, first_item, items_of, large_of, first_large, IsOf, small_has, marks, Gathers, foot_of, harmless_of, Kept}
use Rattle.evaluation_log.specs.Kept.{Cut, cut_of, Whole, AreLike, IsJoined, Spreads, AllBelow, AllHarmless, HasAll, span_of, is_large, own_body, KeepsFeet}
use Rattle.evaluation_log.specs.Kept.{HasMore, base_of, first_segment}
use Rattle.evaluation_log.proofs.BetweenLemmas.{rises_to}
use Rattle.evaluation_log.proofs.KeptLemmas.{first_by, first_marked, large_by, large_marked, standing, or_split, and_right, both, or_left, or_right}
use Rattle.evaluation_log.proofs.KeptLemmas.{before_or_past, items_past, touched_by}

-- ---- lists
pub get_left : {X : Type 0} (xs ys : List X) (k : ℕ) → k < length xs → slice_get (xs ++ ys) k ≡ slice_get xs k
get_left [] ys k less = absurd (omega arith)
get_left (x ∷ xs) ys zero less = refl
get_left (x ∷ xs) ys (suc k) less = get_left xs ys k (omega arith)

pub get_right : {X : Type 0} (xs ys : List X) (k : ℕ) → slice_get (xs ++ ys) (length xs + k) ≡ slice_get ys k
get_right [] ys k = let e : 0 + k ≡ k = omega arith in ap (slice_get ys) e
get_right (x ∷ xs) ys k = let e : suc (length xs) + k ≡ suc (length xs + k) = omega arith in ap (slice_get (x ∷ xs ++ ys)) e ∙ get_right xs ys k

pub get_seam : {X : Type 0} (xs : List X) (x : X) → slice_get (xs ++ (x ∷ [])) (length xs) ≡ Some x
get_seam [] x = refl
get_seam (y ∷ xs) x = get_seam xs x

pub get_take : {X : Type 0} (n : ℕ) (xs : List X) (k : ℕ) → k < n → slice_get (take n xs) k ≡ slice_get xs k
get_take zero xs k less = absurd (omega arith)
get_take (suc n) [] k less = refl
get_take (suc n) (x ∷ xs) zero less = refl
get_take (suc n) (x ∷ xs) (suc k) less = get_take n xs k (omega arith)

pub take_part : {X : Type 0} (n : ℕ) (xs : List X) → n ≤ length xs → length (take n xs) ≡ n
take_part zero xs le = refl
take_part (suc n) [] le = absurd (omega arith)
take_part (suc n) (x ∷ xs) le = let e = take_part n xs (omega arith) in omega (arith, e)

below_or_at : (k n : ℕ) → k < suc n → (k < n) ⊎ (k ≡ n)
below_or_at k n less = grind arith

-- ---- where segments begin, by their marks
abbrev item_by : List Item → Option (ℕ × ℕ × ℕ) → ℕ
item_by items None = length items
item_by items (Some m) = m.1

item_marked : (items : List Item) (o : Option Segment) → first_item items o ≡ item_by items (marks o)
item_marked items None = refl
item_marked items (Some s) = refl

pub start_same : (events : List Logged) (o p : Option Segment) → marks o ≡ marks p → first_event events o ≡ first_event events p
start_same events o p e = first_marked events o ∙ ap (first_by events) e ∙ sym (first_marked events p)

pub item_same : (items : List Item) (o p : Option Segment) → marks o ≡ marks p → first_item items o ≡ first_item items p
item_same items o p e = item_marked items o ∙ ap (item_by items) e ∙ sym (item_marked items p)

pub large_same : (large : List ℕ) (o p : Option Segment) → marks o ≡ marks p → first_large large o ≡ first_large large p
large_same large o p e = large_marked large o ∙ ap (large_by large) e ∙ sym (large_marked large p)

pub starts_past : (segments : List Segment) (events : List Logged) (g : ℕ) → length segments ≤ g → start_of segments events g ≡ length events
starts_past segments events g past = ap (first_event events) (slice_get_past segments g past)

pub larges_past : (segments : List Segment) (large : List ℕ) (g : ℕ) → length segments ≤ g → large_of segments large g ≡ length large
larges_past segments large g past = ap (first_large large) (slice_get_past segments g past)

-- ---- what is touched, in another list with the same items
pub touched_sub : (is js : List Item) (from n : ℕ) (j : Item) →
    ((p : ℕ) (x : Item) → from ≤ p → p < from + n → slice_get js p ≡ Some x → slice_get is p ≡ Some x) → touched js from n j ≡ true →
    touched is from n j ≡ true
touched_sub is js from zero j same h = h
touched_sub is js from (suc n) j same h =
    ⊎_elim
    (λ old. or_left (touched is from n j) (some_stands (slice_get is (from + n)) j)
    (touched_sub is js from n j (λ p x le less e. same p x le (omega (arith, less)) e) old))
    (λ new. let r = standing (slice_get js (from + n)) j new in
    or_right (touched is from n j) (some_stands (slice_get is (from + n)) j)
    (ap (λ o. some_stands o j) (same (from + n) r.0 (omega arith) (omega arith) r.1) ∙ r.2))
    (or_split (touched js from n j) (some_stands (slice_get js (from + n)) j) h)

pub event_sub : (is js : List Item) (e : Logged) (j : Item) →
    ((p : ℕ) (x : Item) → p < e.to → slice_get js p ≡ Some x → slice_get is p ≡ Some x) → event_has js (Some e) j ≡ true → event_has is (Some e) j ≡ true
event_sub is js e j same h =
    ⊎_elim
    (λ own. or_left (touched is e.from (e.to - e.from) j) (body_has e.foot j)
    (touched_sub is js e.from (e.to - e.from) j (λ p x le less at. same p x (omega (arith, le, less)) at) own))
    (λ body. or_right (touched is e.from (e.to - e.from) j) (body_has e.foot j) body)
    (or_split (touched js e.from (e.to - e.from) j) (body_has e.foot j) h)

pub small_sub : (is js : List Item) (e : Logged) (j : Item) →
    ((p : ℕ) (x : Item) → p < e.to → slice_get js p ≡ Some x → slice_get is p ≡ Some x) → small_has js e j ≡ true → small_has is e j ≡ true
small_sub is js e j same h =
    ⊎_elim
    (λ own. or_left (touched is e.from (e.to - e.from) j) (not e.large && body_has e.foot j)
    (touched_sub is js e.from (e.to - e.from) j (λ p x le less at. same p x (omega (arith, le, less)) at) own))
    (λ body. or_right (touched is e.from (e.to - e.from) j) (not e.large && body_has e.foot j) body)
    (or_split (touched js e.from (e.to - e.from) j) (not e.large && body_has e.foot j) h)

-- what stands for a harmless item is harmless
stands_harmless : (x j : Item) → is_harmless x ≡ true → stands_for x j ≡ true → is_harmless j ≡ true
stands_harmless (Read x a n) (Read y b m) h k = refl
stands_harmless (Alive x) (Alive y) h k = refl
stands_harmless _ _ h k = absurd (cc)

pub not_none : {X : Type 0} (o : Option X) (x : X) (Q : Type 0) → o ≡ None → o ≡ Some x → Q
not_none o x Q e f = absurd (let g : None ≡ Some x = sym e ∙ f in cc)

-- ---- events, by their spans
first_size : (fs es : List Logged) (o : Option Segment) → length fs ≡ length es → first_event fs o ≡ first_event es o
first_size fs es None e = e
first_size fs es (Some s) e = refl

spanned : (o : Option Logged) (a b : ℕ) → span_of o ≡ Some (a, b) → (e : Logged) × (o ≡ Some e) × (a ≡ e.from) × (b ≡ e.to)
spanned None a b h = absurd (cc)
spanned (Some e) a b h =
    let p = same_Some (e.from, e.to) (a, b) h in
    (e, refl, sym (ap (λ (x : ℕ × ℕ). x.0) p), sym (ap (λ (x : ℕ × ℕ). x.1) p))

and_left : (p q : Bool) → p && q ≡ true → p ≡ true
and_left true q h = refl
and_left false q h = h

module _ (segments : List Segment) (events : List Logged) (items : List Item) (large : List ℕ) (levels : List Level)
    (whole : Whole segments events items large levels) where
  -- ---- where segments begin
  pub starts_top : (g : ℕ) → start_of segments events g ≤ length events
  starts_top g = (whole.kept.sorted g (omega arith)).1

  pub starts_rise : (g h : ℕ) → g ≤ h → start_of segments events g ≤ start_of segments events h
  starts_rise g h le = rises_to (start_of segments events) 0 g h (λ k more. (whole.kept.sorted k more).0) (omega arith) le

  items_rise : (g h : ℕ) → g ≤ h → items_of segments items g ≤ items_of segments items h
  items_rise g h le = rises_to (items_of segments items) 0 g h whole.kept.items_rise (omega arith) le

  larges_rise : (g h : ℕ) → g ≤ h → large_of segments large g ≤ large_of segments large h
  larges_rise g h le = rises_to (large_of segments large) 0 g h whole.kept.large_rise (omega arith) le

  pub items_top : (g : ℕ) → items_of segments items g ≤ length items
  items_top g =
      let e = items_past segments items (g + length segments) (omega arith) in
      let r = items_rise g (g + length segments) (omega arith) in
      omega (arith, e, r)

  larges_top : (g : ℕ) → large_of segments large g ≤ length large
  larges_top g =
      let e = larges_past segments large (g + length segments) (omega arith) in
      let r = larges_rise g (g + length segments) (omega arith) in
      omega (arith, e, r)

  locate_from : (n g k : ℕ) → k < length events → length segments ≤ g + n → start_of segments events g ≤ k →
      (h : ℕ) × (g ≤ h) × (start_of segments events h ≤ k) × (k < start_of segments events (suc h))
  locate_from zero g k less past low = absurd (let e = starts_past segments events g (omega (arith, past)) in omega (arith, e, low, less))
  locate_from (suc n) g k less past low =
      ⊎_elim (λ before. (g, omega arith, low, before))
      (λ behind. let r = locate_from n (suc g) k less (omega (arith, past)) behind in (r.0, omega (arith, r.1), r.2, r.3))
      (before_or_past k (start_of segments events (suc g)))

  -- the segment of an event
  locate : (g k : ℕ) (e : Logged) → start_of segments events g ≤ k → slice_get events k ≡ Some e → (h : ℕ) × (g ≤ h) × IsOf segments events h k e
  locate g k e low at =
      let r = locate_from (length segments) g k (slice_get_within events k e at) (omega arith) low in
      (r.0, r.1, (r.2, r.3, at))

  pub there_is : (g k : ℕ) (e : Logged) → IsOf segments events g k e → (s : Segment) × (slice_get segments g ≡ Some s)
  there_is g k e of =
      ⊎_elim (λ one. (one.0, one.2))
      (λ past. absurd (let a = starts_past segments events g past.0 in let w = slice_get_within events k e of.2 in omega (arith, a, w, of.0)))
      (slice_get_cases segments g).1

  -- ---- only what is kept besides has changed
  of_by : (ts : List Segment) → ((g : ℕ) → start_of ts events g ≡ start_of segments events g) → (g k : ℕ) (e : Logged) → IsOf ts events g k e →
      IsOf segments events g k e
  of_by ts a g k e of =
      let p = a g in
      let q = a (suc g) in
      (omega (arith, p, of.0), omega (arith, q, of.1), of.2)

  kept_by : (ts : List Segment) → ((g : ℕ) → marks (slice_get ts g) ≡ marks (slice_get segments g)) →
      ((g : ℕ) → start_of ts events g ≡ start_of segments events g) → ((g : ℕ) → items_of ts items g ≡ items_of segments items g) →
      ((g : ℕ) → large_of ts large g ≡ large_of segments large g) →
      ((g : ℕ) → harmless_of (slice_get ts g) ≡ true → harmless_of (slice_get segments g) ≡ true) →
      ((g : ℕ) (f : Box Foot Global) → foot_of (slice_get ts g) ≡ Some f → Gathers segments events items g f.value) → Kept ts events items large 0
  kept_by ts alike a b d harm feet = record {
    sorted = λ g le.
        let p = a g in
        let q = a (suc g) in
        let s = (whole.kept.sorted g le).0 in
        let t = (whole.kept.sorted g le).1 in
        (omega (arith, p, q, s), omega (arith, p, t));
    items_rise = λ g le. let p = b g in let q = b (suc g) in let s = whole.kept.items_rise g le in omega (arith, p, q, s);
    large_rise = λ g le. let p = d g in let q = d (suc g) in let s = whole.kept.large_rise g le in omega (arith, p, q, s);
    own = λ g k e le of.
        let o = whole.kept.own g k e le (of_by ts a g k e of) in
        let p = b g in
        let q = b (suc g) in
        (omega (arith, p, o.0), omega (arith, q, o.1));
    harmless = λ g k e le h of j has. whole.kept.harmless g k e le (harm g h) (of_by ts a g k e of) j has;
    gathered = λ g le f h k e of j has. feet g f h k e (of_by ts a g k e of) j has;
    listed = λ g k e le of big.
        let l = whole.kept.listed g k e le (of_by ts a g k e of) big in
        let p = d g in
        let q = d (suc g) in
        (l.0, omega (arith, p, l.1), omega (arith, q, l.2), l.3);
  }

  pub whole_by : (ts : List Segment) → length ts ≡ length segments → ((g : ℕ) → marks (slice_get ts g) ≡ marks (slice_get segments g)) →
      ((g : ℕ) → harmless_of (slice_get ts g) ≡ true → harmless_of (slice_get segments g) ≡ true) →
      ((g : ℕ) (f : Box Foot Global) → foot_of (slice_get ts g) ≡ Some f → Gathers segments events items g f.value) → Whole ts events items large levels
  whole_by ts n alike harm feet =
      let a : (g : ℕ) → start_of ts events g ≡ start_of segments events g = λ g. start_same events (slice_get ts g) (slice_get segments g) (alike g) in
      let b : (g : ℕ) → items_of ts items g ≡ items_of segments items g = λ g. item_same items (slice_get ts g) (slice_get segments g) (alike g) in
      let d : (g : ℕ) → large_of ts large g ≡ large_of segments large g = λ g. large_same large (slice_get ts g) (slice_get segments g) (alike g) in
      record {
        kept = kept_by ts alike a b d harm feet;
        filled = λ g less. let p = a g in let q = a (suc g) in let s = whole.filled g (omega (arith, n, less)) in omega (arith, p, q, s);
        cuts = λ m c h.
            let i = whole.cuts m c h in
            (omega (arith, n, i.0), a c.segments ∙ i.1, b c.segments ∙ i.2, d c.segments ∙ i.3);
        rise = whole.rise;
      }

  -- ---- other frames
  pub whole_levels : (ms : List Level) → ((d : ℕ) (c : Cut) → cut_of (slice_get ms d) ≡ Some c → cut_of (slice_get levels d) ≡ Some c) →
      Whole segments events items large ms
  whole_levels ms sub = record {
    kept = whole.kept;
    filled = whole.filled;
    cuts = λ d c h. whole.cuts d c (sub d c h);
    rise = λ d n b c le h k. whole.rise d n b c le (sub d b h) (sub n c k);
  }

  abbrev pub new_cut : Level → Type 0
  new_cut l = (l.segments ≡ length segments) × (l.events ≡ length events) × (l.items ≡ length items) × (l.large ≡ length large)

  pub cut_some : (o : Option Level) (l : Level) (c : Cut) → o ≡ Some l → cut_of o ≡ Some c → (c.segments ≡ l.segments) × (c.events ≡ l.events) ×
      (c.items ≡ l.items) ×
      (c.large ≡ l.large)
  cut_some o l c e h =
      let f : cut_of (Some l) ≡ Some c = sym (ap cut_of e) ∙ h in
      let g = same_Some _ _ f in
      (ap (λ (d : Cut). d.segments) (sym g), ap (λ (d : Cut). d.events) (sym g), ap (λ (d : Cut). d.items) (sym g), ap (λ (d : Cut). d.large) (sym g))

  -- a frame that is entered, or was open
  entered : (l : Level) (d : ℕ) (c : Cut) → cut_of (slice_get (levels ++ (l ∷ [])) d) ≡ Some c →
      ((d < length levels) × (cut_of (slice_get levels d) ≡ Some c)) ⊎ ((d ≡ length levels) × (c.segments ≡ l.segments) × (c.events ≡ l.events) ×
      (c.items ≡ l.items) × (c.large ≡ l.large))
  entered l d c h =
      ⊎_elim
      (λ before. inl (before, sym (ap cut_of (get_left levels (l ∷ []) d before)) ∙ h))
      (λ behind. ⊎_elim
      (λ past. not_none (cut_of (slice_get (levels ++ (l ∷ [])) d)) c _
      (ap cut_of (slice_get_past (levels ++ (l ∷ [])) d (let n = length-append levels (l ∷ []) in omega (arith, n, past)))) h)
      (λ at. let r = cut_some (slice_get (levels ++ (l ∷ [])) d) l c (ap (slice_get (levels ++ (l ∷ []))) at ∙ get_seam levels l) h in
      inr (at, r.0, r.1, r.2, r.3))
      (past_or_at d behind))
      (before_or_past d (length levels))
    where
      past_or_at : (d : ℕ) → length levels ≤ d → (length levels < d) ⊎ (d ≡ length levels)
      past_or_at d le = grind arith

  pub whole_enter : (l : Level) → new_cut l → Whole segments events items large (levels ++ (l ∷ []))
  whole_enter l new =
      let s0 = starts_past segments events l.segments (omega (arith, new.0)) in
      let i0 = items_past segments items l.segments (omega (arith, new.0)) in
      let g0 = larges_past segments large l.segments (omega (arith, new.0)) in
      record {
        kept = whole.kept;
        filled = whole.filled;
        cuts = λ d c h.
            ⊎_elim (λ old. whole.cuts d c old.1)
            (λ at. (
              omega (arith, at.1, new.0),
              ap (start_of segments events) at.1 ∙ s0 ∙ sym new.1 ∙ sym at.2,
              ap (items_of segments items) at.1 ∙ i0 ∙ sym new.2 ∙ sym at.3,
              ap (large_of segments large) at.1 ∙ g0 ∙ sym new.3 ∙ sym at.4,
            )) (entered l d c h);
        rise = λ d n b c le h k.
            ⊎_elim
            (λ old. ⊎_elim (λ up. whole.rise d n b c le old.1 up.1)
            (λ top. let i = (whole.cuts d b old.1).0 in omega (arith, i, top.1, new.0)) (entered l n c k))
            (λ at. ⊎_elim (λ up. absurd (omega (arith, up.0, at.0, le))) (λ top. omega (arith, top.1, at.1)) (entered l n c k))
            (entered l d b h);
      }

  -- ---- operands that are made one
  module _ (ts : List Segment) (at : ℕ) (within : at < length segments) (joined : IsJoined segments ts at) where
    join_marks : (g : ℕ) → g ≤ at → marks (slice_get ts g) ≡ marks (slice_get segments g)
    join_marks g le =
        ⊎_elim (λ less. (joined.others g less).begins)
        (λ same. ap (λ n. marks (slice_get ts n)) same ∙ joined.begins ∙ ap (λ n. marks (slice_get segments n)) (sym same))
        (below_or_at g at (omega (arith, le)))

    join_start : (g : ℕ) → g ≤ at → start_of ts events g ≡ start_of segments events g
    join_start g le = start_same events (slice_get ts g) (slice_get segments g) (join_marks g le)

    join_item : (g : ℕ) → g ≤ at → items_of ts items g ≡ items_of segments items g
    join_item g le = item_same items (slice_get ts g) (slice_get segments g) (join_marks g le)

    join_large : (g : ℕ) → g ≤ at → large_of ts large g ≡ large_of segments large g
    join_large g le = large_same large (slice_get ts g) (slice_get segments g) (join_marks g le)

    past_start : (g : ℕ) → at < g → start_of ts events g ≡ length events
    past_start g less = starts_past ts events g (let n = joined.count in omega (arith, n, less))

    past_item : (g : ℕ) → at < g → items_of ts items g ≡ length items
    past_item g less = items_past ts items g (let n = joined.count in omega (arith, n, less))

    past_large : (g : ℕ) → at < g → large_of ts large g ≡ length large
    past_large g less = larges_past ts large g (let n = joined.count in omega (arith, n, less))

    join_top : (g : ℕ) → start_of ts events g ≤ length events
    join_top g =
        ⊎_elim (λ less. let e = past_start g less in omega (arith, e)) (λ le. let e = join_start g le in let t = starts_top g in omega (arith, e, t))
        (before_or_past at g)

    -- the segment of an event before and after
    join_of : (g k : ℕ) (e : Logged) → IsOf ts events g k e → (h : ℕ) × IsOf segments events h k e × (((h ≡ g) × (g < at)) ⊎ ((g ≡ at) × (at ≤ h)))
    join_of g k e of =
        ⊎_elim
        (λ less. let a = join_start g (omega (arith, less)) in let b = join_start (suc g) (omega (arith, less)) in
        (g, (omega (arith, a, of.0), omega (arith, b, of.1), of.2), inl (refl, less)))
        (λ le. ⊎_elim
        (λ past. absurd (let a = past_start g past in let w = slice_get_within events k e of.2 in omega (arith, a, w, of.0)))
        (λ low. let same : g ≡ at = omega (arith, le, low) in
        let a = join_start at (omega arith) in
        let b = ap (start_of ts events) same in
        let r = locate at k e (omega (arith, a, b, of.0)) of.2 in
        (r.0, r.2, inr (same, r.1)))
        (before_or_past at g))
        (before_or_past g at)

    join_kept : ((f : Box Foot Global) → foot_of (slice_get ts at) ≡ Some f → Spreads segments events items at f.value) → Kept ts events items large 0
    join_kept feet = record {
      sorted = λ g le. (
        ⊎_elim
            (λ less. let a = join_start g (omega (arith, less)) in let b = join_start (suc g) (omega (arith, less)) in let s = (whole.kept.sorted g le).0 in
            omega (arith, a, b, s))
            (λ more. let t = join_top g in let b = past_start (suc g) (omega (arith, more)) in omega (arith, t, b))
            (before_or_past g at),
        join_top g,
      );
      items_rise = λ g le. ⊎_elim
          (λ less. let a = join_item g (omega (arith, less)) in let b = join_item (suc g) (omega (arith, less)) in let s = whole.kept.items_rise g le in
          omega (arith, a, b, s))
          (λ more. let b = past_item (suc g) (omega (arith, more)) in
          ⊎_elim (λ past. let a = past_item g past in omega (arith, a, b))
          (λ low. let a = join_item g low in let t = items_top g in omega (arith, a, b, t)) (before_or_past at g))
          (before_or_past g at);
      large_rise = λ g le. ⊎_elim
          (λ less. let a = join_large g (omega (arith, less)) in let b = join_large (suc g) (omega (arith, less)) in let s = whole.kept.large_rise g le in
          omega (arith, a, b, s))
          (λ more. let b = past_large (suc g) (omega (arith, more)) in
          ⊎_elim (λ past. let a = past_large g past in omega (arith, a, b))
          (λ low. let a = join_large g low in let t = larges_top g in omega (arith, a, b, t)) (before_or_past at g))
          (before_or_past g at);
      own = λ g k e le of.
          let r = join_of g k e of in
          let o = whole.kept.own r.0 k e (omega arith) r.1 in
          ⊎_elim
          (λ old. let a = join_item g (omega (arith, old.1)) in let b = join_item (suc g) (omega (arith, old.1)) in
          let c = ap (items_of segments items) old.0 in
          let d = ap (λ n. items_of segments items (suc n)) old.0 in
          (omega (arith, a, c, o.0), omega (arith, b, d, o.1)))
          (λ new. let a = join_item g (omega (arith, new.0)) in let b = past_item (suc g) (omega (arith, new.0)) in
          let c = items_rise g r.0 (omega (arith, new.0, new.1)) in
          let t = items_top (suc r.0) in
          (omega (arith, a, c, o.0), omega (arith, b, t, o.1)))
          r.2;
      harmless = λ g k e le h of j has.
          let r = join_of g k e of in
          let s = there_is r.0 k e r.1 in
          whole.kept.harmless r.0 k e (omega arith)
          (⊎_elim
          (λ old. ap (λ n. harmless_of (slice_get segments n)) old.0 ∙ sym (joined.others g old.1).harm ∙ h)
          (λ new. ap harmless_of s.1 ∙ joined.harm (ap (λ n. harmless_of (slice_get ts n)) (sym new.0) ∙ h) r.0 s.0 new.1 s.1)
          r.2) r.1 j has;
      gathered = λ g le f h k e of j has.
          let r = join_of g k e of in
          ⊎_elim
          (λ old. whole.kept.gathered g le f (sym (joined.others g old.1).foot ∙ h) k e
          (subst (λ (n : ℕ). IsOf segments events n k e) old.0 r.1) j has)
          (λ new. feet f (ap (λ n. foot_of (slice_get ts n)) (sym new.0) ∙ h) r.0 new.1 k e r.1 j has)
          r.2;
      listed = λ g k e le of big.
          let r = join_of g k e of in
          let l = whole.kept.listed r.0 k e (omega arith) r.1 big in (
            l.0,
            ⊎_elim
                (λ old. let a = join_large g (omega (arith, old.1)) in let c = ap (large_of segments large) old.0 in omega (arith, a, c, l.1))
                (λ new. let a = join_large g (omega (arith, new.0)) in let c = larges_rise g r.0 (omega (arith, new.0, new.1)) in omega (arith, a, c, l.1))
                r.2,
            ⊎_elim
                (λ old. let b = join_large (suc g) (omega (arith, old.1)) in let d = ap (λ n. large_of segments large (suc n)) old.0 in omega
                (arith, b, d, l.2))
                (λ new. let b = past_large (suc g) (omega (arith, new.0)) in let t = larges_top (suc r.0) in omega (arith, b, t, l.2))
                r.2,
            l.3,
          );
    }

    pub whole_joined : ((d : ℕ) (c : Cut) → cut_of (slice_get levels d) ≡ Some c → c.segments ≤ at) →
        ((f : Box Foot Global) → foot_of (slice_get ts at) ≡ Some f → Spreads segments events items at f.value) → Whole ts events items large levels
    whole_joined below feet = record {
      kept = join_kept feet;
      filled = λ g less. ⊎_elim
          (λ before. let a = join_start g (omega (arith, before)) in let b = join_start (suc g) (omega (arith, before)) in
          let s = whole.filled g (omega (arith, before, within)) in
          omega (arith, a, b, s))
          (λ more. let n = joined.count in
          let a = join_start g (omega (arith, less, n)) in
          let b = past_start (suc g) (omega (arith, more)) in
          let s = whole.filled g (omega (arith, less, n, within)) in
          let t = starts_top (suc g) in
          omega (arith, a, b, s, t))
          (before_or_past g at);
      cuts = λ d c h.
          let i = whole.cuts d c h in
          let le = below d c h in
          let n = joined.count in
          (omega (arith, n, le), join_start c.segments le ∙ i.1, join_item c.segments le ∙ i.2, join_large c.segments le ∙ i.3);
      rise = whole.rise;
    }

  -- ---- an event that is logged
  pub inside : (g : ℕ) → g < length segments → (s : Segment) × (slice_get segments g ≡ Some s)
  inside g less =
      ⊎_elim (λ one. (one.0, one.2)) (λ past. absurd (let e = past.0 in omega (arith, e, less))) (slice_get_cases segments g).1

  pub mark_at : (g : ℕ) (s : Segment) → slice_get segments g ≡ Some s →
      marks (slice_get segments g) ≡ Some (start_of segments events g, items_of segments items g, large_of segments large g)
  mark_at g s e = ap marks e ∙ (λ i. Some (first_event events (sym e i), first_item items (sym e i), first_large large (sym e i)))

  module _ (ts : List Segment) (last : ℕ) (e : Logged) (added : List Item) (count : length ts ≡ suc last) (low : last ≤ length segments)
      (high : length segments ≤ suc last) (others : (g : ℕ) → g < last → AreLike (slice_get segments g) (slice_get ts g))
      (begins : marks (slice_get ts last) ≡ Some (start_of segments events last, items_of segments items last, large_of segments large last))
      (from : e.from ≡ length items) (to : e.to ≡ length items + length added) (bare : e.foot ≡ None) (small : e.large ≡ false)
      (harm : harmless_of (slice_get ts last) ≡ true →
      AllHarmless added × ((k : ℕ) (d : Logged) → IsOf segments events last k d → harmless_of (slice_get segments last) ≡ true))
      (feet : (f : Box Foot Global) → foot_of (slice_get ts last) ≡ Some f → Gathers segments events items last f.value × HasAll added f.value) where
    marked : (g : ℕ) → g ≤ last → marks (slice_get ts g) ≡ Some (start_of segments events g, items_of segments items g, large_of segments large g)
    marked g le =
        ⊎_elim (λ less. let s = inside g (omega (arith, less, low)) in (others g less).begins ∙ mark_at g s.0 s.1)
        (λ same. subst (λ (n : ℕ). marks (slice_get ts n) ≡ Some (start_of segments events n, items_of segments items n, large_of segments large n))
        (sym same) begins)
        (below_or_at g last (omega (arith, le)))

    log_start : (g : ℕ) → g ≤ last → start_of ts (events ++ (e ∷ [])) g ≡ start_of segments events g
    log_start g le = first_marked (events ++ (e ∷ [])) (slice_get ts g) ∙ ap (first_by (events ++ (e ∷ []))) (marked g le)

    log_item : (g : ℕ) → g ≤ last → items_of ts (items ++ added) g ≡ items_of segments items g
    log_item g le = item_marked (items ++ added) (slice_get ts g) ∙ ap (item_by (items ++ added)) (marked g le)

    log_large : (g : ℕ) → g ≤ last → large_of ts large g ≡ large_of segments large g
    log_large g le = large_marked large (slice_get ts g) ∙ ap (large_by large) (marked g le)

    log_past : (g : ℕ) → last < g → start_of ts (events ++ (e ∷ [])) g ≡ length events + 1
    log_past g less = starts_past ts (events ++ (e ∷ [])) g (omega (arith, count, less)) ∙ length_push events e

    items_end : (g : ℕ) → last < g → items_of ts (items ++ added) g ≡ length items + length added
    items_end g less = items_past ts (items ++ added) g (omega (arith, count, less)) ∙ length-append items added

    larges_end : (g : ℕ) → last < g → large_of ts large g ≡ length large
    larges_end g less = larges_past ts large g (omega (arith, count, less))

    log_of : (g k : ℕ) (d : Logged) → IsOf ts (events ++ (e ∷ [])) g k d →
        (IsOf segments events g k d × (g ≤ last)) ⊎ ((g ≡ last) × (k ≡ length events) × (d ≡ e))
    log_of g k d of =
        let w = slice_get_within (events ++ (e ∷ [])) k d of.2 in
        let n = length_push events e in
        ⊎_elim (λ past. absurd (let a = log_past g past in omega (arith, a, w, n, of.0)))
        (λ le. let a = log_start g le in
        ⊎_elim
        (λ old. inl (
          (
            omega (arith, a, of.0),
            ⊎_elim (λ next. let b = log_start (suc g) next in omega (arith, b, of.1))
                (λ end. let b = starts_past segments events (suc g) (omega (arith, high, end, le)) in omega (arith, b, old)) (up_to (suc g) last),
            sym (get_left events (e ∷ []) k old) ∙ of.2,
          ),
          le,
        ))
        (λ new. let k_is : k ≡ length events = omega (arith, new, w, n) in
        inr (
          ⊎_elim (λ next. absurd (let b = log_start (suc g) next in let t = starts_top (suc g) in omega (arith, b, t, of.1, new)))
              (λ end. omega (arith, end, le))
              (up_to (suc g) last),
          k_is,
          same_Some d e (sym of.2 ∙ ap (slice_get (events ++ (e ∷ []))) k_is ∙ get_seam events e),
        ))
        (before_or_past k (length events)))
        (before_or_past last g)
      where
        up_to : (g n : ℕ) → (g ≤ n) ⊎ (n < g)
        up_to g n = grind arith

    log_items : (g k : ℕ) (d : Logged) → IsOf segments events g k d → (p : ℕ) (x : Item) → p < d.to → slice_get (items ++ added) p ≡ Some x →
        slice_get items p ≡ Some x
    log_items g k d of p x less h =
        let o = whole.kept.own g k d (omega arith) of in
        let t = items_top (suc g) in
        sym (get_left items added p (omega (arith, o.1, t, less))) ∙ h

    new_item : (j : Item) → touched (items ++ added) e.from (e.to - e.from) j ≡ true →
        (p : ℕ) × (x : Item) × (slice_get added p ≡ Some x) × (stands_for x j ≡ true)
    new_item j h =
        let t = touched_by (items ++ added) e.from (e.to - e.from) j h in
        let q : t.0 ≡ length items + (t.0 - length items) = omega (arith, from, t.2) in
        (t.0 - length items, t.1, sym (get_right items added (t.0 - length items)) ∙ ap (slice_get (items ++ added)) (sym q) ∙ t.4, t.5)

    no_body : (j : Item) → body_has e.foot j ≡ true → ⊥
    no_body j h = absurd (let f : false ≡ true = sym (ap (λ b. body_has b j) bare) ∙ h in cc)

    log_kept : Kept ts (events ++ (e ∷ [])) (items ++ added) large 0
    log_kept = record {
      sorted = λ g le. ⊎_elim
          (λ less. let a = log_start g (omega (arith, less)) in let b = log_start (suc g) (omega (arith, less)) in
          let s = (whole.kept.sorted g le).0 in let t = starts_top g in let n = length_push events e in
          (omega (arith, a, b, s), omega (arith, a, t, n)))
          (λ more. let b = log_past (suc g) (omega (arith, more)) in let n = length_push events e in
          ⊎_elim (λ past. let a = log_past g past in (omega (arith, a, b), omega (arith, a, n)))
          (λ at. let a = log_start g at in let t = starts_top g in (omega (arith, a, b, t), omega (arith, a, t, n))) (before_or_past last g))
          (before_or_past g last);
      items_rise = λ g le. ⊎_elim
          (λ less. let a = log_item g (omega (arith, less)) in let b = log_item (suc g) (omega (arith, less)) in let s = whole.kept.items_rise g le in
          omega (arith, a, b, s))
          (λ more. let b = items_end (suc g) (omega (arith, more)) in
          ⊎_elim (λ past. let a = items_end g past in omega (arith, a, b)) (λ at. let a = log_item g at in let t = items_top g in omega (arith, a, b, t))
          (before_or_past last g))
          (before_or_past g last);
      large_rise = λ g le. ⊎_elim
          (λ less. let a = log_large g (omega (arith, less)) in let b = log_large (suc g) (omega (arith, less)) in let s = whole.kept.large_rise g le in
          omega (arith, a, b, s))
          (λ more. let b = larges_end (suc g) (omega (arith, more)) in
          ⊎_elim (λ past. let a = larges_end g past in omega (arith, a, b)) (λ at. let a = log_large g at in let t = larges_top g in omega (arith, a, b, t))
          (before_or_past last g))
          (before_or_past g last);
      own = λ g k d le of. ⊎_elim
          (λ old. let o = whole.kept.own g k d le old.0 in let a = log_item g old.1 in (
            omega (arith, a, o.0),
            ⊎_elim (λ less. let b = log_item (suc g) (omega (arith, less)) in omega (arith, b, o.1))
                (λ more. let b = items_end (suc g) (omega (arith, more)) in let t = items_top (suc g) in omega (arith, b, t, o.1)) (before_or_past g last),
          ))
          (λ new. let a = log_item g (omega (arith, new.0)) in let b = items_end (suc g) (omega (arith, new.0)) in let t = items_top g in
          let f : d.from ≡ e.from = ap (λ (x : Logged). x.from) new.2 in
          let u : d.to ≡ e.to = ap (λ (x : Logged). x.to) new.2 in
          (omega (arith, a, t, f, from), omega (arith, b, u, to)))
          (log_of g k d of);
      harmless = λ g k d le h of j has. ⊎_elim
          (λ old. whole.kept.harmless g k d le
          (⊎_elim (λ less. sym (others g less).harm ∙ h)
          (λ more. let same : g ≡ last = omega (arith, more, old.1) in
          ap (λ n. harmless_of (slice_get segments n)) same ∙
          (harm (ap (λ n. harmless_of (slice_get ts n)) (sym same) ∙ h)).1 k d (subst (λ (n : ℕ). IsOf segments events n k d) same old.0))
          (before_or_past g last))
          old.0 j (event_sub items (items ++ added) d j (log_items g k d old.0) has))
          (λ new. let all = (harm (ap (λ n. harmless_of (slice_get ts n)) (sym new.0) ∙ h)).0 in
          let own : event_has (items ++ added) (Some e) j ≡ true = ap (λ (x : Logged). event_has (items ++ added) (Some x) j) (sym new.2) ∙ has in
          ⊎_elim (λ touch. let t = new_item j touch in stands_harmless t.1 j (all t.0 t.1 t.2) t.3) (λ body. absurd (no_body j body))
          (or_split (touched (items ++ added) e.from (e.to - e.from) j) (body_has e.foot j) own))
          (log_of g k d of);
      gathered = λ g le f h k d of j has. ⊎_elim
          (λ old. let was = small_sub items (items ++ added) d j (log_items g k d old.0) has in
          ⊎_elim (λ less. whole.kept.gathered g le f (sym (others g less).foot ∙ h) k d old.0 j was)
          (λ more. let same : g ≡ last = omega (arith, more, old.1) in
          (feet f (ap (λ n. foot_of (slice_get ts n)) (sym same) ∙ h)).0 k d (subst (λ (n : ℕ). IsOf segments events n k d) same old.0) j was)
          (before_or_past g last))
          (λ new. let all = (feet f (ap (λ n. foot_of (slice_get ts n)) (sym new.0) ∙ h)).1 in
          let own : small_has (items ++ added) e j ≡ true = ap (λ (x : Logged). small_has (items ++ added) x j) (sym new.2) ∙ has in
          ⊎_elim (λ touch. let t = new_item j touch in all t.0 t.1 j t.2 t.3)
          (λ body. absurd (no_body j (and_right (not e.large) (body_has e.foot j) body)))
          (or_split (touched (items ++ added) e.from (e.to - e.from) j) (not e.large && body_has e.foot j) own))
          (log_of g k d of);
      listed = λ g k d le of big. ⊎_elim
          (λ old. let l = whole.kept.listed g k d le old.0 big in let a = log_large g old.1 in (
            l.0,
            omega (arith, a, l.1),
            ⊎_elim (λ less. let b = log_large (suc g) (omega (arith, less)) in omega (arith, b, l.2))
                (λ more. let b = larges_end (suc g) (omega (arith, more)) in let t = larges_top (suc g) in omega (arith, b, t, l.2)) (before_or_past g last),
            l.3,
          ))
          (λ new. absurd (let f : false ≡ true = sym small ∙ ap (λ (x : Logged). x.large) (sym new.2) ∙ big in cc))
          (log_of g k d of);
    }

    pub whole_logged : AllBelow levels last → Whole ts (events ++ (e ∷ [])) (items ++ added) large levels
    whole_logged below = record {
      kept = log_kept;
      filled = λ g less. ⊎_elim
          (λ before. let a = log_start g (omega (arith, before)) in let b = log_start (suc g) (omega (arith, before)) in
          let s = whole.filled g (omega (arith, before, low)) in omega (arith, a, b, s))
          (λ more. let a = log_start g (omega (arith, less, count)) in let b = log_past (suc g) (omega (arith, more)) in let t = starts_top g in
          omega (arith, a, b, t))
          (before_or_past g last);
      cuts = λ d c h.
          let i = whole.cuts d c h in
          let le = below d c h in
          (omega (arith, count, le), log_start c.segments le ∙ i.1, log_item c.segments le ∙ i.2, log_large c.segments le ∙ i.3);
      rise = whole.rise;
    }

  -- ---- the lists end where a full expression began
  module _ (c : Cut) (m : ℕ) (top : cut_of (slice_get levels m) ≡ Some c) (above : AllBelow levels c.segments) where
    cut_count : length (take c.segments segments) ≡ c.segments
    cut_count = take_part c.segments segments (whole.cuts m c top).0

    cut_events : length (take c.events events) ≡ c.events
    cut_events = take_part c.events events (let e = (whole.cuts m c top).1 in let t = starts_top c.segments in omega (arith, e, t))

    cut_items : length (take c.items items) ≡ c.items
    cut_items = take_part c.items items (let e = (whole.cuts m c top).2 in let t = items_top c.segments in omega (arith, e, t))

    cut_larges : length (take c.large large) ≡ c.large
    cut_larges = take_part c.large large (let e = (whole.cuts m c top).3 in let t = larges_top c.segments in omega (arith, e, t))

    -- what stands at a place of the segments that are left
    left_mark : (g : ℕ) → g < c.segments →
        marks (slice_get (take c.segments segments) g) ≡ Some (start_of segments events g, items_of segments items g, large_of segments large g)
    left_mark g less =
        let i = (whole.cuts m c top).0 in
        let s = inside g (omega (arith, less, i)) in
        ap marks (get_take c.segments segments g less) ∙ mark_at g s.0 s.1

    pub cut_start : (g : ℕ) → g ≤ c.segments → start_of (take c.segments segments) (take c.events events) g ≡ start_of segments events g
    cut_start g le =
        ⊎_elim
        (λ less. first_marked (take c.events events) (slice_get (take c.segments segments) g) ∙ ap (first_by (take c.events events)) (left_mark g less))
        (λ same. starts_past (take c.segments segments) (take c.events events) g (omega (arith, cut_count, same)) ∙ cut_events ∙
        sym (whole.cuts m c top).1 ∙ ap (start_of segments events) (sym same))
        (below_or_at g c.segments (omega (arith, le)))

    cut_item : (g : ℕ) → g ≤ c.segments → items_of (take c.segments segments) (take c.items items) g ≡ items_of segments items g
    cut_item g le =
        ⊎_elim
        (λ less. item_marked (take c.items items) (slice_get (take c.segments segments) g) ∙ ap (item_by (take c.items items)) (left_mark g less))
        (λ same. items_past (take c.segments segments) (take c.items items) g (omega (arith, cut_count, same)) ∙ cut_items ∙
        sym (whole.cuts m c top).2 ∙ ap (items_of segments items) (sym same))
        (below_or_at g c.segments (omega (arith, le)))

    cut_large : (g : ℕ) → g ≤ c.segments → large_of (take c.segments segments) (take c.large large) g ≡ large_of segments large g
    cut_large g le =
        ⊎_elim
        (λ less. large_marked (take c.large large) (slice_get (take c.segments segments) g) ∙ ap (large_by (take c.large large)) (left_mark g less))
        (λ same. larges_past (take c.segments segments) (take c.large large) g (omega (arith, cut_count, same)) ∙ cut_larges ∙
        sym (whole.cuts m c top).3 ∙ ap (large_of segments large) (sym same))
        (below_or_at g c.segments (omega (arith, le)))

    cut_past : (g : ℕ) → c.segments ≤ g → start_of (take c.segments segments) (take c.events events) g ≡ c.events
    cut_past g le = starts_past (take c.segments segments) (take c.events events) g (omega (arith, cut_count, le)) ∙ cut_events

    cut_items_past : (g : ℕ) → c.segments ≤ g → items_of (take c.segments segments) (take c.items items) g ≡ c.items
    cut_items_past g le = items_past (take c.segments segments) (take c.items items) g (omega (arith, cut_count, le)) ∙ cut_items

    cut_large_past : (g : ℕ) → c.segments ≤ g → large_of (take c.segments segments) (take c.large large) g ≡ c.large
    cut_large_past g le = larges_past (take c.segments segments) (take c.large large) g (omega (arith, cut_count, le)) ∙ cut_larges

    left_of : (g k : ℕ) (d : Logged) → IsOf (take c.segments segments) (take c.events events) g k d → (g < c.segments) × IsOf segments events g k d
    left_of g k d of =
        let w = slice_get_within (take c.events events) k d of.2 in
        let n = cut_events in
        let less : g < c.segments = ⊎_elim (λ before. before) (λ past. absurd (let a = cut_past g past in omega (arith, a, n, w, of.0)))
        (before_or_past g c.segments) in
        let a = cut_start g (omega (arith, less)) in
        let b = cut_start (suc g) (omega (arith, less)) in
        (less, (omega (arith, a, of.0), omega (arith, b, of.1), sym (get_take c.events events k (omega (arith, n, w))) ∙ of.2))

    left_items : (p : ℕ) (x : Item) → slice_get (take c.items items) p ≡ Some x → slice_get items p ≡ Some x
    left_items p x h =
        let w = slice_get_within (take c.items items) p x h in
        let n = cut_items in
        sym (get_take c.items items p (omega (arith, n, w))) ∙ h

    left_foot : (g : ℕ) → g < c.segments → (f : Box Foot Global) → foot_of (slice_get (take c.segments segments) g) ≡ Some f →
        foot_of (slice_get segments g) ≡ Some f
    left_foot g less f h = ap foot_of (sym (get_take c.segments segments g less)) ∙ h

    cut_kept : Kept (take c.segments segments) (take c.events events) (take c.items items) (take c.large large) 0
    cut_kept = record {
      sorted = λ g le. ⊎_elim
          (λ less. let a = cut_start g (omega (arith, less)) in let b = cut_start (suc g) (omega (arith, less)) in let s = (whole.kept.sorted g le).0 in
          let r = starts_rise g c.segments (omega (arith, less)) in let e = (whole.cuts m c top).1 in let n = cut_events in
          (omega (arith, a, b, s), omega (arith, a, r, e, n)))
          (λ past. let a = cut_past g past in let b = cut_past (suc g) (omega (arith, past)) in let n = cut_events in
          (omega (arith, a, b), omega (arith, a, n)))
          (before_or_past g c.segments);
      items_rise = λ g le. ⊎_elim
          (λ less. let a = cut_item g (omega (arith, less)) in let b = cut_item (suc g) (omega (arith, less)) in let s = whole.kept.items_rise g le in
          omega (arith, a, b, s))
          (λ past. let a = cut_items_past g past in let b = cut_items_past (suc g) (omega (arith, past)) in omega (arith, a, b))
          (before_or_past g c.segments);
      large_rise = λ g le. ⊎_elim
          (λ less. let a = cut_large g (omega (arith, less)) in let b = cut_large (suc g) (omega (arith, less)) in let s = whole.kept.large_rise g le in
          omega (arith, a, b, s))
          (λ past. let a = cut_large_past g past in let b = cut_large_past (suc g) (omega (arith, past)) in omega (arith, a, b))
          (before_or_past g c.segments);
      own = λ g k d le of.
          let r = left_of g k d of in
          let o = whole.kept.own g k d le r.1 in
          let a = cut_item g (omega (arith, r.0)) in
          let b = cut_item (suc g) (omega (arith, r.0)) in
          (omega (arith, a, o.0), omega (arith, b, o.1));
      harmless = λ g k d le h of j has.
          let r = left_of g k d of in
          whole.kept.harmless g k d le (ap harmless_of (sym (get_take c.segments segments g r.0)) ∙ h) r.1 j
          (event_sub items (take c.items items) d j (λ p x less e. left_items p x e) has);
      gathered = λ g le f h k d of j has.
          let r = left_of g k d of in
          whole.kept.gathered g le f (left_foot g r.0 f h) k d r.1 j (small_sub items (take c.items items) d j (λ p x less e. left_items p x e) has);
      listed = λ g k d le of big.
          let r = left_of g k d of in
          let l = whole.kept.listed g k d le r.1 big in
          let a = cut_large g (omega (arith, r.0)) in
          let b = cut_large (suc g) (omega (arith, r.0)) in
          let t = larges_rise (suc g) c.segments (omega (arith, r.0)) in
          let e = (whole.cuts m c top).3 in
          (l.0, omega (arith, a, l.1), omega (arith, b, l.2), get_take c.large large l.0 (omega (arith, l.2, t, e)) ∙ l.3);
    }

    pub whole_cut : Whole (take c.segments segments) (take c.events events) (take c.items items) (take c.large large) levels
    whole_cut = record {
      kept = cut_kept;
      filled = λ g less.
          let n = cut_count in
          let i = (whole.cuts m c top).0 in
          let a = cut_start g (omega (arith, less, n)) in
          let b = cut_start (suc g) (omega (arith, less, n)) in
          let s = whole.filled g (omega (arith, less, n, i)) in
          omega (arith, a, b, s);
      cuts = λ d b h.
          let i = whole.cuts d b h in
          let le = above d b h in
          let n = cut_count in
          (omega (arith, n, le), cut_start b.segments le ∙ i.1, cut_item b.segments le ∙ i.2, cut_large b.segments le ∙ i.3);
      rise = whole.rise;
    }

  -- ---- an event that no longer has its body
  module _ (fs : List Logged) (size : length fs ≡ length events) (spans : (k : ℕ) → span_of (slice_get fs k) ≡ span_of (slice_get events k)) where
    size_start : (g : ℕ) → start_of segments fs g ≡ start_of segments events g
    size_start g = first_size fs events (slice_get segments g) size

    -- the event as it was
    was_of : (g k : ℕ) (d : Logged) → IsOf segments fs g k d → (e : Logged) × IsOf segments events g k e × (d.from ≡ e.from) × (d.to ≡ e.to)
    was_of g k d of =
        let a = size_start g in
        let b = size_start (suc g) in
        let r = spanned (slice_get events k) d.from d.to (sym (spans k) ∙ ap span_of of.2) in
        (r.0, (omega (arith, a, of.0), omega (arith, b, of.1), r.1), r.2, r.3)

    pub whole_taken : ((k : ℕ) (j : Item) → own_body (slice_get fs k) j ≡ true → own_body (slice_get events k) j ≡ true) →
        ((k : ℕ) → is_large (slice_get fs k) ≡ is_large (slice_get events k)) → Whole segments fs items large levels
    whole_taken bodies larges = record {
      kept = record {
        sorted = λ g le. let a = size_start g in let b = size_start (suc g) in let s = (whole.kept.sorted g le).0 in let t = starts_top g in
            (omega (arith, a, b, s), omega (arith, a, t, size));
        items_rise = whole.kept.items_rise;
        large_rise = whole.kept.large_rise;
        own = λ g k d le of.
            let r = was_of g k d of in
            let o = whole.kept.own g k r.0 le r.1 in
            (omega (arith, r.2, o.0), omega (arith, r.3, o.1));
        harmless = λ g k d le h of j has.
            let r = was_of g k d of in
            whole.kept.harmless g k r.0 le h r.1 j
            (⊎_elim
            (λ own. or_left (touched items (r.0).from ((r.0).to - (r.0).from) j) (body_has (r.0).foot j)
            ((λ i. touched items (sym r.2 i) (sym r.3 i - sym r.2 i) j) ∙ own))
            (λ body. or_right (touched items (r.0).from ((r.0).to - (r.0).from) j) (body_has (r.0).foot j)
            (ap (λ o. own_body o j) (sym r.1.2) ∙ bodies k j (ap (λ o. own_body o j) of.2 ∙ body)))
            (or_split (touched items d.from (d.to - d.from) j) (body_has d.foot j) has));
        gathered = λ g le f h k d of j has.
            let r = was_of g k d of in
            let same : (r.0).large ≡ d.large = ap is_large (sym r.1.2) ∙ sym (larges k) ∙ ap is_large of.2 in
            whole.kept.gathered g le f h k r.0 r.1 j
            (⊎_elim
            (λ own. or_left (touched items (r.0).from ((r.0).to - (r.0).from) j) (not (r.0).large && body_has (r.0).foot j)
            ((λ i. touched items (sym r.2 i) (sym r.3 i - sym r.2 i) j) ∙ own))
            (λ body. or_right (touched items (r.0).from ((r.0).to - (r.0).from) j) (not (r.0).large && body_has (r.0).foot j)
            (both (not (r.0).large) (body_has (r.0).foot j) (ap not same ∙ and_left (not d.large) (body_has d.foot j) body)
            (ap (λ o. own_body o j) (sym r.1.2) ∙ bodies k j (ap (λ o. own_body o j) of.2 ∙ and_right (not d.large) (body_has d.foot j) body))))
            (or_split (touched items d.from (d.to - d.from) j) (not d.large && body_has d.foot j) has));
        listed = λ g k d le of big.
            let r = was_of g k d of in
            whole.kept.listed g k r.0 le r.1 (ap is_large (sym r.1.2) ∙ sym (larges k) ∙ ap is_large of.2 ∙ big);
      };
      filled = λ g less. let a = size_start g in let b = size_start (suc g) in let s = whole.filled g less in omega (arith, a, b, s);
      cuts = λ d c h. let i = whole.cuts d c h in (i.0, size_start c.segments ∙ i.1, i.2, i.3);
      rise = whole.rise;
    }

    -- ---- the body that the last event started
    module _ (ts : List Segment) (hs : List ℕ) (n at : ℕ) (last : n ≡ length segments - 1) (end : at ≡ length events - 1)
        (count : length ts ≡ length segments) (alike : (g : ℕ) → marks (slice_get ts g) ≡ marks (slice_get segments g))
        (others : (g : ℕ) → g < n → AreLike (slice_get segments g) (slice_get ts g)) (harm : harmless_of (slice_get ts n) ≡ false)
        (foot : foot_of (slice_get ts n) ≡ None) (before : (k : ℕ) → k < at → slice_get fs k ≡ slice_get events k)
        (big : is_large (slice_get fs at) ≡ true → hs ≡ large ++ (at ∷ []))
        (grown : (hs ≡ large) ⊎ ((hs ≡ large ++ (at ∷ [])) × (n < length segments) × AllBelow levels n)) where
      give_start : (g : ℕ) → start_of ts fs g ≡ start_of segments events g
      give_start g = start_same fs (slice_get ts g) (slice_get segments g) (alike g) ∙ size_start g

      give_item : (g : ℕ) → items_of ts items g ≡ items_of segments items g
      give_item g = item_same items (slice_get ts g) (slice_get segments g) (alike g)

      give_large : (g : ℕ) → g < length segments → large_of ts hs g ≡ large_of segments large g
      give_large g less =
          let s = inside g less in
          large_same hs (slice_get ts g) (slice_get segments g) (alike g) ∙ ap (first_large hs) s.1 ∙ ap (first_large large) (sym s.1)

      give_past : (g : ℕ) → length segments ≤ g → large_of ts hs g ≡ length hs
      give_past g past = larges_past ts hs g (omega (arith, count, past))

      hs_more : length large ≤ length hs
      hs_more = ⊎_elim (λ e. let f = ap length e in omega (arith, f)) (λ e. let f = ap length e.0 ∙ length_push large at in omega (arith, f)) grown

      hs_has : (i k : ℕ) → slice_get large i ≡ Some k → slice_get hs i ≡ Some k
      hs_has i k h =
          ⊎_elim (λ e. ap (λ (x : List ℕ). slice_get x i) e ∙ h)
          (λ e. ap (λ (x : List ℕ). slice_get x i) e.0 ∙ get_left large (at ∷ []) i (slice_get_within large i k h) ∙ h) grown

      -- an event of a segment that isn't the last one is as it was, and so is each but the last
      give_of : (g k : ℕ) (d : Logged) → IsOf ts fs g k d →
          (g ≤ n) × (g < length segments) × (e : Logged) × IsOf segments events g k e × (d.from ≡ e.from) × (d.to ≡ e.to) ×
          (((k < at) × (e ≡ d)) ⊎ ((k ≡ at) × (g ≡ n)))
      give_of g k d of =
          let a = give_start g in
          let b = give_start (suc g) in
          let p = size_start g in
          let q = size_start (suc g) in
          let r = was_of g k d (omega (arith, a, p, of.0), omega (arith, b, q, of.1), of.2) in
          let s = there_is g k r.0 r.1 in
          let w = slice_get_within segments g s.0 s.1 in
          let v = slice_get_within events k r.0 r.1.2 in (
            omega (arith, w, last),
            w,
            r.0,
            r.1,
            r.2,
            r.3,
            ⊎_elim (λ less. inl (less, same_Some r.0 d (sym r.1.2 ∙ sym (before k less) ∙ of.2)))
                (λ more. inr (
                  omega (arith, more, v, end),
                  ⊎_elim
                      (λ low. let f = whole.filled n (omega (arith, low, last)) in let t = starts_top (suc n) in let u = starts_rise (suc g) n
                      (omega (arith, low)) in
                      absurd (omega (arith, f, t, u, r.1.1, more, end, v)))
                      (λ same. omega (arith, same, w, last)) (before_or_past g n),
                ))
                (before_or_past k at),
          )

      give_kept : Kept ts fs items hs 0
      give_kept = record {
        sorted = λ g le. let a = give_start g in let b = give_start (suc g) in let s = (whole.kept.sorted g le).0 in let t = starts_top g in
            (omega (arith, a, b, s), omega (arith, a, t, size));
        items_rise = λ g le. let a = give_item g in let b = give_item (suc g) in let s = whole.kept.items_rise g le in omega (arith, a, b, s);
        large_rise = λ g le.
            ⊎_elim
            (λ less. let a = give_large g less in let s = whole.kept.large_rise g le in
            ⊎_elim (λ next. let b = give_large (suc g) next in omega (arith, a, b, s))
            (λ past. let b = give_past (suc g) past in let t = larges_top g in let m = hs_more in omega (arith, a, b, t, m))
            (before_or_past (suc g) (length segments)))
            (λ past. let a = give_past g past in let b = give_past (suc g) (omega (arith, past)) in omega (arith, a, b))
            (before_or_past g (length segments));
        own = λ g k d le of.
            let r = give_of g k d of in
            let o = whole.kept.own g k r.2 le r.3 in
            let a = give_item g in
            let b = give_item (suc g) in
            (omega (arith, a, r.4, o.0), omega (arith, b, r.5, o.1));
        harmless = λ g k d le h of j has.
            let r = give_of g k d of in
            ⊎_elim
            (λ less. ⊎_elim
            (λ same. whole.kept.harmless g k r.2 le (sym (others g less).harm ∙ h) r.3 j
            (ap (λ (x : Logged). event_has items (Some x) j) same.1 ∙ has))
            (λ new. absurd (omega (arith, new.1, less))) r.6)
            (λ more. let same : g ≡ n = omega (arith, more, r.0) in
            absurd (let f : false ≡ true = sym harm ∙ ap (λ m. harmless_of (slice_get ts m)) (sym same) ∙ h in cc))
            (before_or_past g n);
        gathered = λ g le f h k d of j has.
            let r = give_of g k d of in
            ⊎_elim
            (λ less. ⊎_elim
            (λ same. whole.kept.gathered g le f (sym (others g less).foot ∙ h) k r.2 r.3 j (ap (λ (x : Logged). small_has items x j) same.1 ∙ has))
            (λ new. absurd (omega (arith, new.1, less))) r.6)
            (λ more. let same : g ≡ n = omega (arith, more, r.0) in
            not_none (foot_of (slice_get ts n)) f _ foot (ap (λ m. foot_of (slice_get ts m)) (sym same) ∙ h))
            (before_or_past g n);
        listed = λ g k d le of large_d.
            let r = give_of g k d of in
            let a = give_large g r.1 in
            ⊎_elim
            (λ same. let l = whole.kept.listed g k r.2 le r.3 (ap (λ (x : Logged). x.large) same.1 ∙ large_d) in (
              l.0,
              omega (arith, a, l.1),
              ⊎_elim (λ next. let b = give_large (suc g) next in omega (arith, b, l.2))
                  (λ past. let b = give_past (suc g) past in let t = larges_top (suc g) in let m = hs_more in omega (arith, b, t, m, l.2))
                  (before_or_past (suc g) (length segments)),
              hs_has l.0 k l.3,
            ))
            (λ new. let e = big (ap (λ m. is_large (slice_get fs m)) (sym new.0) ∙ ap is_large of.2 ∙ large_d) in
            let f = ap length e ∙ length_push large at in
            let t = larges_top g in (
              length large,
              omega (arith, a, t),
              (let b = give_past (suc g) (omega (arith, new.1, last)) in omega (arith, b, f)),
              ap (λ (x : List ℕ). slice_get x (length large)) e ∙ get_seam large at ∙ ap Some (sym new.0),
            ))
            r.6;
      }

      pub whole_given : Whole ts fs items hs levels
      whole_given = record {
        kept = give_kept;
        filled = λ g less. let a = give_start g in let b = give_start (suc g) in let s = whole.filled g (omega (arith, less, count)) in omega (arith, a, b, s);
        cuts = λ d c h.
            let i = whole.cuts d c h in (
              omega (arith, count, i.0),
              give_start c.segments ∙ i.1,
              give_item c.segments ∙ i.2,
              ⊎_elim (λ e. large_same hs (slice_get ts c.segments) (slice_get segments c.segments) (alike c.segments) ∙
                  ap (λ (x : List ℕ). large_of segments x c.segments) e ∙ i.3)
                  (λ e. give_large c.segments (let le = e.2 d c h in omega (arith, le, e.1)) ∙ i.3) grown,
            );
        rise = whole.rise;
      }

  -- ---- frames that end, and the top frame
  pub at_level : (o : Option Level) (c : Cut) → cut_of o ≡ Some c → (l : Level) × (o ≡ Some l)
  at_level None c h = absurd (cc)
  at_level (Some l) c h = (l, refl)

  pub whole_popped : (k : ℕ) → Whole segments events items large (take k levels)
  whole_popped k = whole_levels (take k levels) (λ d c h.
      let l = at_level (slice_get (take k levels) d) c h in
      let w = slice_get_within (take k levels) d l.0 l.1 in
      let n = length-take k levels in
      ap cut_of (sym (get_take k levels d (omega (arith, w, n)))) ∙ h)

  pub base_below : AllBelow levels (base_of levels)
  base_below d c h =
      let l = at_level (slice_get levels d) c h in
      let w = slice_get_within levels d l.0 l.1 in
      ⊎_elim
      (λ top. let r = whole.rise d (length levels - 1) c (record {
        segments = (top.0).segments;
        events = (top.0).events;
        items = (top.0).items;
        large = (top.0).large;
        loose = (top.0).loose;
      })
      (omega (arith, w)) h (ap cut_of top.2) in
      let e = ap first_segment top.2 in omega (arith, r, e))
      (λ past. absurd (omega (arith, past.0, w)))
      (slice_get_cases levels (length levels - 1)).1

  pub base_within : base_of levels ≤ length segments
  base_within =
      ⊎_elim
      (λ top. let r = (whole.cuts (length levels - 1) (record {
        segments = (top.0).segments;
        events = (top.0).events;
        items = (top.0).items;
        large = (top.0).large;
        loose = (top.0).loose;
      })
      (ap cut_of top.2)).0 in
      let e = ap first_segment top.2 in omega (arith, r, e))
      (λ past. let e = ap first_segment past.1 in omega (arith, e))
      (slice_get_cases levels (length levels - 1)).1

  pub kept_from : (at : ℕ) → Kept segments events items large at
  kept_from at = record {
    sorted = λ g le. whole.kept.sorted g (omega arith);
    items_rise = λ g le. whole.kept.items_rise g (omega arith);
    large_rise = λ g le. whole.kept.large_rise g (omega arith);
    own = λ g k e le of. whole.kept.own g k e (omega arith) of;
    harmless = λ g k e le h of j has. whole.kept.harmless g k e (omega arith) h of j has;
    gathered = λ g le. whole.kept.gathered g (omega arith);
    listed = λ g k e le of big. whole.kept.listed g k e (omega arith) of big;
  }

  -- the set of the only operand
  pub only_spreads : (at : ℕ) (f : Box Foot Global) → length segments ≤ suc at → foot_of (slice_get segments at) ≡ Some f →
      Spreads segments events items at f.value
  only_spreads at f high h g le k e of j has =
      let s = there_is g k e of in
      let w = slice_get_within segments g s.0 s.1 in
      let same : g ≡ at = omega (arith, w, high, le) in
      whole.kept.gathered g (omega arith) f (ap (λ n. foot_of (slice_get segments n)) same ∙ h) k e of j has

  pub kept_joined : (us ts : List Segment) (at : ℕ) → AllBelow levels at → at < length segments →
      ((g : ℕ) → marks (slice_get us g) ≡ marks (slice_get segments g)) → ((g : ℕ) → harmless_of (slice_get us g) ≡ harmless_of (slice_get segments g)) →
      ((g : ℕ) → g ≢ at → slice_get us g ≡ slice_get segments g) → IsJoined us ts at →
      ((f : Box Foot Global) → foot_of (slice_get ts at) ≡ Some f → Spreads segments events items at f.value) → Whole ts events items large levels
  kept_joined us ts at below within alike harm others joined feet =
      whole_joined ts at within
      (record {
        count = joined.count;
        others = λ g less. let e = others g (λ same. absurd (omega (arith, same, less))) in record {
          begins = (joined.others g less).begins ∙ ap marks e;
          harm = (joined.others g less).harm ∙ ap harmless_of e;
          foot = (joined.others g less).foot ∙ ap foot_of e;
        };
        begins = joined.begins ∙ alike at;
        harm = λ h g s le e.
            ⊎_elim
            (λ one. sym (ap harmless_of e) ∙ sym (harm g) ∙ ap harmless_of one.2 ∙ joined.harm h g one.0 le one.2)
            (λ past. absurd (let m : None ≡ Some (s.first, s.items, s.large) = sym (ap marks past.1) ∙ alike g ∙ ap marks e in cc))
            (slice_get_cases us g).1;
      })
      below feet

pub whole_moved : (ss ts : List Segment) (es fs : List Logged) (is js : List Item) (gs hs : List ℕ) (ls ms : List Level) → ts ≡ ss → fs ≡ es → js ≡ is →
    hs ≡ gs → ms ≡ ls → Whole ss es is gs ls → Whole ts fs js hs ms
whole_moved ss ts es fs is js gs hs ls ms a b c d e w =
    subst (λ (x : List Segment). Whole x fs js hs ms) (sym a)
    (subst (λ (x : List Logged). Whole ss x js hs ms) (sym b)
    (subst (λ (x : List Item). Whole ss es x hs ms) (sym c)
    (subst (λ (x : List ℕ). Whole ss es is x ms) (sym d) (subst (λ (x : List Level). Whole ss es is gs x) (sym e) w))))

pub length_alike : (ts ss : List Segment) → ((g : ℕ) → marks (slice_get ts g) ≡ marks (slice_get ss g)) → length ts ≡ length ss
length_alike [] [] h = refl
length_alike [] (s ∷ ss) h = absurd (let e = h 0 in cc)
length_alike (t ∷ ts) [] h = absurd (let e = h 0 in cc)
length_alike (t ∷ ts) (s ∷ ss) h = let e = length_alike ts ss (λ g. h (suc g)) in omega (arith, e)

-- a set that has more
pub more_by : (o : Option (Box Foot Global)) (b n : Box Foot Global) (added : List Item) → o ≡ Some b →
    ((j : Item) → holds b.value j ≡ true → holds n.value j ≡ true) → HasAll added n.value → HasMore o (Some n) added
more_by o b n added old more all f e =
    let s = same_Some n f e in
    (b, old, (λ j h. ap (λ (x : Box Foot Global). holds x.value j) (sym s) ∙ more j h), subst (λ (x : Box Foot Global). HasAll added x.value) s all)

-- ---- sets that are kept, or no longer
same_or_not : (g n : ℕ) → (g ≡ n) ⊎ (g ≢ n)
same_or_not g n =
    ⊎_elim (λ less. inr (λ e. absurd (omega (arith, e, less))))
    (λ le. ⊎_elim (λ less. inr (λ e. absurd (omega (arith, e, less)))) (λ more. inl (omega (arith, le, more))) (before_or_past n g))
    (before_or_past g n)

abbrev pub LosesFeet : List Segment → List Segment → Type 0
LosesFeet ss ts = (g : ℕ) → (foot_of (slice_get ts g) ≡ None) ⊎ (slice_get ts g ≡ slice_get ss g)

pub loses_more : (ss ts us : List Segment) (at : ℕ) → LosesFeet ss ts → foot_of (slice_get us at) ≡ None →
    ((g : ℕ) → g ≢ at → slice_get us g ≡ slice_get ts g) → LosesFeet ss us
loses_more ss ts us at lost gone others g =
    ⊎_elim (λ same. inl (ap (λ n. foot_of (slice_get us n)) same ∙ gone))
    (λ differ. let e = others g differ in ⊎_elim (λ none. inl (ap foot_of e ∙ none)) (λ old. inr (e ∙ old)) (lost g))
    (same_or_not g at)

pub loses_none : (ss : List Segment) → LosesFeet ss ss
loses_none ss g = inr refl

pub feet_lost : (ss ts : List Segment) (events : List Logged) (items : List Item) (at : ℕ) → LosesFeet ss ts → KeepsFeet ss ts events items at
feet_lost ss ts events items at lost g f h =
    ⊎_elim (λ none. not_none (foot_of (slice_get ts g)) f _ none h) (λ old. inl (sym (ap foot_of old) ∙ h)) (lost g)

pub feet_set : (ss ts us : List Segment) (events : List Logged) (items : List Item) (at : ℕ) → LosesFeet ss ts →
    ((g : ℕ) → g ≢ at → slice_get us g ≡ slice_get ts g) →
    ((f : Box Foot Global) → foot_of (slice_get us at) ≡ Some f → Spreads ss events items at f.value) → KeepsFeet ss us events items at
feet_set ss ts us events items at lost others spreads g f h =
    ⊎_elim (λ same. inr (same, spreads f (ap (λ n. foot_of (slice_get us n)) (sym same) ∙ h)))
    (λ differ. feet_lost ss ts events items at lost g f (sym (ap foot_of (others g differ)) ∙ h))
    (same_or_not g at)

-- a set that has what each operand up to the last touched
pub spreads_all : (ss : List Segment) (events : List Logged) (items : List Item) (at n : ℕ) (all : Foot) (f b : Box Foot Global) → Some b ≡ Some f →
    b.value ≡ all → length ss ≤ n → ((g : ℕ) → g < n → at ≤ g → Gathers ss events items g all) → Spreads ss events items at f.value
spreads_all ss events items at n all f b e v past has g le =
    subst (λ (x : Foot). Gathers ss events items g x) (sym v ∙ ap (λ (x : Box Foot Global). x.value) (same_Some b f e))
    (⊎_elim (λ less. has g less le)
    (λ more. (λ k d of j h. absurd (
    let a = starts_past ss events g (omega (arith, past, more)) in
    let w = slice_get_within events k d of.2 in
    omega (arith, a, w, of.0))))
    (before_or_past g n))
