-- Operands between which the tests find no conflict.
use Rattle.std.proofs.Common.{◌≡◌, ◌⊎◌, inl, inr, ⊎_elim, ℕ, zero, suc, ◌≤◌, ◌<◌, ◌+◌, ◌-◌, Bool, true, false, not, ◌&&◌, ◌||◌, List, length, refl, sym, ap}
use Rattle.std.proofs.Common.{◌∙◌, arith, Option, Some, None, below_more, subst}
use Rattle.std.specs.Prelude.{slice_get}
use Rattle.std.proofs.lemmas.Option.{slice_get_cases, slice_get_past, slice_get_within}
use Rattle.ub_base.specs.declared.names.ObjName.{ObjName}
use Rattle.ub_base.specs.declared.names.Item.{Item}
use Rattle.ub_base.specs.declared.names.Item.TheVariants.{Read, Alive}
use Rattle.addr_map.specs.declared.map.Row.{Row}
use Rattle.addr_map.specs.Conflict.{items_conflict, stands_at}
use Rattle.footprint.specs.declared.foot.Foot.{Foot}
use Rattle.footprint.specs.Holds.{holds, stands_for}
use Rattle.evaluation_log.specs.declared.log.Logged.{Logged}
use Rattle.evaluation_log.specs.declared.log.Segment.{Segment}
use Rattle.evaluation_log.specs.declared.sought.Sought.{Sought}
use Rattle.evaluation_log.specs.declared.sought.Sought.TheVariants.{Any}
use Rattle.evaluation_log.specs.Touched.{first_event, some_stands, touched, body_has, event_has, is_sought, range_has, start_of}
use Rattle.evaluation_log.specs.Clashes.{AreSorted, NoClash, NoneBetween, operand_has}
use Rattle.evaluation_log.specs.Kept.{is_harmless, first_item, items_of, large_of, IsOf, small_has, own_body, small_of, marks, listed_has, Gathers, Kept}
use Rattle.evaluation_log.specs.Kept.{NoLarge, AreApart, Joined, first_large, foot_of, harmless_of, GathersKept}
use Rattle.evaluation_log.proofs.ClashLemmas.{none_like}
use Rattle.evaluation_log.proofs.StandLemmas.{stand_conflict}
use Rattle.evaluation_log.proofs.BetweenLemmas.{operand_past, none_turned, rises_to, apart}

pub or_split : (p q : Bool) → p || q ≡ true → (p ≡ true) ⊎ (q ≡ true)
or_split true q h = inl refl
or_split false q h = inr h

pub and_right : (p q : Bool) → p && q ≡ true → q ≡ true
and_right true q h = h
and_right false q h = absurd (cc)

pub both : (p q : Bool) → p ≡ true → q ≡ true → p && q ≡ true
both p q h k = (λ i. h i && k i)

pub or_left : (p q : Bool) → p ≡ true → p || q ≡ true
or_left p q h = ap (λ r. r || q) h

pub or_right : (p q : Bool) → q ≡ true → p || q ≡ true
or_right true q h = refl
or_right false q h = h

-- ---- the event or the item that has it
pub standing : (o : Option Item) (j : Item) → some_stands o j ≡ true → (x : Item) × (o ≡ Some x) × (stands_for x j ≡ true)
standing None j h = absurd (cc)
standing (Some x) j h = (x, refl, h)

pub touched_by : (items : List Item) (from n : ℕ) (j : Item) → touched items from n j ≡ true →
    (p : ℕ) × (x : Item) × (from ≤ p) × (p < from + n) × (slice_get items p ≡ Some x) × (stands_for x j ≡ true)
touched_by items from zero j h = absurd (cc)
touched_by items from (suc n) j h =
    ⊎_elim
    (λ old. let r = touched_by items from n j old in (r.0, r.1, r.2, omega (arith, r.3), r.4, r.5))
    (λ new. let r = standing (slice_get items (from + n)) j new in (from + n, r.0, omega arith, omega arith, r.1, r.2))
    (or_split (touched items from n j) (some_stands (slice_get items (from + n)) j) h)

being : (items : List Item) (o : Option Logged) (j : Item) → event_has items o j ≡ true → (e : Logged) × (o ≡ Some e) × (event_has items (Some e) j ≡ true)
being items None j h = absurd (cc)
being items (Some e) j h = (e, refl, h)

pub had_by : (events : List Logged) (items : List Item) (sought : Sought) (from n : ℕ) (j : Item) → range_has events items sought from n j ≡ true →
    (k : ℕ) × (e : Logged) × (from ≤ k) × (k < from + n) × (slice_get events k ≡ Some e) × (event_has items (Some e) j ≡ true)
had_by events items sought from zero j h = absurd (cc)
had_by events items sought from (suc n) j h =
    ⊎_elim
    (λ old. let r = had_by events items sought from n j old in (r.0, r.1, r.2, omega (arith, r.3), r.4, r.5))
    (λ new. let r = being items (slice_get events (from + n)) j (and_right (is_sought sought (slice_get events (from + n))) _ new) in
    (from + n, r.0, omega arith, omega arith, r.1, r.2))
    (or_split (range_has events items sought from n j) (is_sought sought (slice_get events (from + n)) && event_has items (slice_get events (from + n)) j) h)

-- ---- harmless items
no_harm : (stands : ObjName → ℕ → Bool) (i j : Item) → is_harmless i ≡ true → is_harmless j ≡ true → items_conflict stands i j ≡ true → ⊥
no_harm stands (Read x a n) (Read y b m) h k c = absurd (cc)
no_harm stands (Read x a n) (Alive y) h k c = absurd (cc)
no_harm stands (Alive x) (Read y b m) h k c = absurd (cc)
no_harm stands (Alive x) (Alive y) h k c = absurd (cc)
no_harm stands _ _ h k c = absurd (cc)

-- both ways round
pub between : (rows : List Row) (segments : List Segment) (events : List Logged) (items : List Item) (sought : Sought) (at : ℕ) →
    ((g h : ℕ) → at ≤ g → g < h → NoClash sought rows (operand_has sought segments events items g) (operand_has sought segments events items h)) →
    NoneBetween sought rows segments events items at
between rows segments events items sought at none g h le more differ =
    ⊎_elim
    (λ less. none g h le less)
    (λ less. none_turned rows sought (operand_has sought segments events items h) (operand_has sought segments events items g) (none h g more less))
    (apart g h differ)

-- where there is but one operand
pub single_none : (rows : List Row) (segments : List Segment) (events : List Logged) (items : List Item) (at : ℕ) → length segments ≤ suc at →
    NoneBetween Any rows segments events items at
single_none rows segments events items at high g h le more differ i j c =
    ⊎_elim
    (λ less. let none = operand_past segments events items Any h j (omega (arith, less, le, high)) in
    absurd (let e : false ≡ true = sym none ∙ c.1 in cc))
    (λ less. let none = operand_past segments events items Any g i (omega (arith, less, more, high)) in
    absurd (let e : false ≡ true = sym none ∙ c.0 in cc))
    (apart g h differ)

-- ---- items apart
pub apart_by : (rows : List Row) (items : List Item) (a b c d : ℕ) → a ≡ c → b ≡ d → AreApart rows items a b → AreApart rows items c d
apart_by rows items a b c d e m h p q le less more = h p q (omega (arith, e, le)) (omega (arith, m, less)) (omega (arith, m, more))

pub items_past : (segments : List Segment) (items : List Item) (g : ℕ) → length segments ≤ g → items_of segments items g ≡ length items
items_past segments items g past = ap (first_item items) (slice_get_past segments g past)

pub before_or_past : (g n : ℕ) → (g < n) ⊎ (n ≤ g)
before_or_past g n = grind arith

pub apart_end : (rows : List Row) (segments : List Segment) (items : List Item) (at n : ℕ) → length segments ≤ n →
    ((g : ℕ) → g < n → at ≤ g → AreApart rows items (items_of segments items g) (items_of segments items (suc g))) →
    (g : ℕ) → at ≤ g → AreApart rows items (items_of segments items g) (items_of segments items (suc g))
apart_end rows segments items at n past h g le p q low less more x y e m =
    ⊎_elim (λ before. h g before le p q low less more x y e m)
    (λ behind.
    let w = slice_get_within items p x e in
    let t = items_past segments items g (omega (arith, past, behind)) in
    absurd (omega (arith, w, low, t)))
    (before_or_past g n)

-- ---- large bodies
pub no_large_by : (rows : List Row) (events : List Logged) (large : List ℕ) (a b c d : ℕ) (f : Item → Bool) → a ≡ c → b ≡ d →
    NoLarge rows events large a b f → NoLarge rows events large c d f
no_large_by rows events large a b c d f e m none i le less = none i (omega (arith, e, le)) (omega (arith, m, less))

-- ---- sets that are gathered
pub small_step : (events : List Logged) (items : List Item) (from at : ℕ) (old now : Item → Bool) →
    ((j : Item) → now j ≡ (old j || small_of items (slice_get events at) j)) →
    ((k : ℕ) → k < at → from ≤ k → (j : Item) → small_of items (slice_get events k) j ≡ true → old j ≡ true) →
    (k : ℕ) → k < at + 1 → from ≤ k → (j : Item) → small_of items (slice_get events k) j ≡ true → now j ≡ true
small_step events items from at old now is has =
    below_more _ _ (λ k less le j h. is j ∙ or_left (old j) (small_of items (slice_get events at) j) (has k less le j h))
    (λ le j h. is j ∙ or_right (old j) (small_of items (slice_get events at) j) h)

pub gathers_all : (segments : List Segment) (events : List Logged) (items : List Item) (g from to n : ℕ) (f : Foot) →
    from ≡ start_of segments events g → to ≡ start_of segments events (suc g) → to ≤ n →
    ((k : ℕ) → k < n → from ≤ k → (j : Item) → small_of items (slice_get events k) j ≡ true → holds f j ≡ true) → Gathers segments events items g f
gathers_all segments events items g from to n f first last past has k e of j h =
    has k (omega (arith, last, past, of.1)) (omega (arith, first, of.0)) j (ap (λ o. small_of items o j) of.2 ∙ h)

abbrev pub first_by : List Logged → Option (ℕ × ℕ × ℕ) → ℕ
first_by events None = length events
first_by events (Some m) = m.0

pub first_marked : (events : List Logged) (o : Option Segment) → first_event events o ≡ first_by events (marks o)
first_marked events None = refl
first_marked events (Some s) = refl

pub starts_alike : (ss ts : List Segment) (events : List Logged) → ((g : ℕ) → marks (slice_get ss g) ≡ marks (slice_get ts g)) →
    (g : ℕ) → start_of ss events g ≡ start_of ts events g
starts_alike ss ts events alike g =
    first_marked events (slice_get ss g) ∙ ap (first_by events) (alike g) ∙ sym (first_marked events (slice_get ts g))

pub gathers_alike : (ss ts : List Segment) (events : List Logged) (items : List Item) (g : ℕ) (f : Foot) →
    ((h : ℕ) → marks (slice_get ss h) ≡ marks (slice_get ts h)) → Gathers ss events items g f → Gathers ts events items g f
gathers_alike ss ts events items g f alike has k e of =
    let a = starts_alike ss ts events alike g in
    let b = starts_alike ss ts events alike (suc g) in
    has k e (omega (arith, a, of.0), omega (arith, b, of.1), of.2)

abbrev pub large_by : List ℕ → Option (ℕ × ℕ × ℕ) → ℕ
large_by large None = length large
large_by large (Some m) = m.2

pub large_marked : (large : List ℕ) (o : Option Segment) → first_large large o ≡ large_by large (marks o)
large_marked large None = refl
large_marked large (Some s) = refl

larges_alike : (ss ts : List Segment) (large : List ℕ) → ((g : ℕ) → marks (slice_get ss g) ≡ marks (slice_get ts g)) →
    (g : ℕ) → large_of ss large g ≡ large_of ts large g
larges_alike ss ts large alike g =
    large_marked large (slice_get ss g) ∙ ap (large_by large) (alike g) ∙ sym (large_marked large (slice_get ts g))

joined_alike : (rows : List Row) (ss ts : List Segment) (events : List Logged) (large : List ℕ) (at g : ℕ) (old now foot : Foot) →
    ((h : ℕ) → marks (slice_get ss h) ≡ marks
    (slice_get ts h)) → Joined rows ss events large at g old now foot → Joined rows ts events large at g old now foot
joined_alike rows ss ts events large at g old now foot alike d =
    let a = larges_alike ss ts large alike at in
    let b = larges_alike ss ts large alike g in
    let e = larges_alike ss ts large alike (suc g) in
    record {
      grown = d.grown;
      small = d.small;
      first = no_large_by rows events large (large_of ss large at) (large_of ss large g) (large_of ts large at) (large_of ts large g)
          (holds foot) a b d.first;
      second = no_large_by rows events large (large_of ss large g) (large_of ss large (suc g)) (large_of ts large g) (large_of ts large (suc g))
          (holds old) b e
          d.second;
      twice = λ i le less. no_large_by rows events large (large_of ss large g) (large_of ss large (suc g)) (large_of ts large g) (large_of ts large (suc g))
          (listed_has events (slice_get large i)) b e (d.twice i (omega (arith, a, le)) (omega (arith, b, less)));
    }

pub joined_by : (rows : List Row) (ss ts : List Segment) (es fs : List Logged) (ls ms : List ℕ) (at g : ℕ) (old now foot : Foot) →
    ((h : ℕ) → marks (slice_get ss h) ≡ marks (slice_get ts h)) → es ≡ fs → ls ≡ ms → Joined rows ss es ls at g old now foot →
    Joined rows ts fs ms at g old now foot
joined_by rows ss ts es fs ls ms at g old now foot alike e m d =
    joined_alike rows ss ts fs ms at g old now foot alike
    (subst (λ (xs : List ℕ). Joined rows ss fs xs at g old now foot) m (subst (λ (xs : List Logged). Joined rows ss xs ls at g old now foot) e d))

pub gathers_by : (ss ts : List Segment) (es fs : List Logged) (is js : List Item) (g : ℕ) (f : Foot) →
    ((h : ℕ) → marks (slice_get ss h) ≡ marks (slice_get ts h)) → es ≡ fs → is ≡ js → Gathers ss es is g f → Gathers ts fs js g f
gathers_by ss ts es fs is js g f alike e m has =
    gathers_alike ss ts fs js g f alike
    (subst (λ (xs : List Item). Gathers ss fs xs g f) m (subst (λ (xs : List Logged). Gathers ss xs is g f) e has))

pub gathered_more : (segments : List Segment) (events : List Logged) (items : List Item) (at n : ℕ) (old now foot : Foot) →
    ((j : Item) → holds now j ≡ (holds old j || holds foot j)) → Gathers segments events items n foot →
    ((g : ℕ) → g < n → at ≤ g → Gathers segments events items g old) → (g : ℕ) → g < n + 1 → at ≤ g → Gathers segments events items g now
gathered_more segments events items at n old now foot grown own has =
    below_more _ _ (λ g less le k e of j h. grown j ∙ or_left (holds old j) (holds foot j) (has g less le k e of j h))
    (λ le k e of j h. grown j ∙ or_right (holds old j) (holds foot j) (own k e of j h))

operand_alike : (ss ts : List Segment) (es fs : List Logged) (is js : List Item) (g : ℕ) → ((h : ℕ) → marks (slice_get ts h) ≡ marks (slice_get ss h)) →
    fs ≡ es → js ≡ is → (j : Item) → operand_has Any ts fs js g j ≡ operand_has Any ss es is g j
operand_alike ss ts es fs is js g alike e m j =
    let a = starts_alike ts ss es alike g in
    let b = starts_alike ts ss es alike (suc g) in
    (λ t. operand_has Any ts (e t) (m t) g j) ∙ (λ t. range_has es is Any (a t) (b t - a t) j)

pub between_alike : (rows : List Row) (ss ts : List Segment) (es fs : List Logged) (is js : List Item) (at : ℕ) →
    ((h : ℕ) → marks (slice_get ts h) ≡ marks (slice_get ss h)) → fs ≡ es → js ≡ is → NoneBetween Any rows ts fs js at → NoneBetween Any rows ss es is at
between_alike rows ss ts es fs is js at alike e m none g h le more differ =
    none_like rows Any (operand_has Any ts fs js g) (operand_has Any ss es is g) (operand_has Any ts fs js h) (operand_has Any ss es is h)
    (operand_alike ss ts es fs is js g alike e m) (operand_alike ss ts es fs is js h alike e m) (none g h le more differ)

pub sorted_alike : (ss ts : List Segment) (es fs : List Logged) (at : ℕ) → ((h : ℕ) → marks (slice_get ts h) ≡ marks (slice_get ss h)) → fs ≡ es →
    AreSorted ss es at → AreSorted ts fs at
sorted_alike ss ts es fs at alike e sorted =
    subst (λ (xs : List Logged). AreSorted ts xs at) (sym e)
    (λ g le.
    let a = starts_alike ts ss es alike g in
    let b = starts_alike ts ss es alike (suc g) in
    let up = (sorted g le).0 in
    let in_bounds = (sorted g le).1 in
    (omega (arith, a, b, up), omega (arith, a, in_bounds)))

pub kept_of : (ss ts : List Segment) (es fs : List Logged) (is js : List Item) (large : List ℕ) (at g : ℕ) → Kept ss es is large at → at ≤ g →
    ((h : ℕ) → marks (slice_get ts h) ≡ marks (slice_get ss h)) → fs ≡ es → js ≡ is → slice_get ts g ≡ slice_get ss g → GathersKept ts fs js g
kept_of ss ts es fs is js large at g kept le alike e m left f h =
    gathers_by ss ts es fs is js g f.value (λ k. sym (alike k)) (sym e) (sym m) (kept.gathered g le f (ap foot_of (sym left) ∙ h))

pub as_first : (rows : List Row) (ss ts us : List Segment) (es fs gs : List Logged) (is js : List Item) (ls ms : List ℕ) (at n : ℕ) (old now : Foot) →
    ((h : ℕ) → marks (slice_get ts h) ≡ marks (slice_get ss h)) → ((h : ℕ) → marks (slice_get us h) ≡ marks (slice_get ss h)) →
    fs ≡ es → gs ≡ es → js ≡ is → ms ≡ ls → ((foot : Foot) × Gathers ts fs js n foot × Joined rows us gs ms at n old now foot) →
    (foot : Foot) × Gathers ss es is n foot × Joined rows ss es ls at n old now foot
as_first rows ss ts us es fs gs is js ls ms at n old now a b e f m k p =
    (p.0, gathers_by ts ss fs es js is n p.0 a e m p.1, joined_by rows us ss gs es ms ls at n old now p.0 b f k p.2)

module _ (rows : List Row) (segments : List Segment) (events : List Logged) (items : List Item) (large : List ℕ) (at : ℕ)
    (kept : Kept segments events items large at) where
  -- where the segment of an operand that touched something stands
  standing_at : (g : ℕ) (j : Item) → operand_has Any segments events items g j ≡ true → (s : Segment) × (slice_get segments g ≡ Some s)
  standing_at g j h =
      ⊎_elim (λ one. (one.0, one.2))
      (λ past. absurd (let none = operand_past segments events items Any g j past.0 in cc))
      (slice_get_cases segments g).1

  -- the event of an operand that touched it
  of_operand : (g : ℕ) (j : Item) → at ≤ g → operand_has Any segments events items g j ≡ true →
      (k : ℕ) × (e : Logged) × IsOf segments events g k e × (event_has items (Some e) j ≡ true)
  of_operand g j le h =
      let up = (kept.sorted g le).0 in
      let r = had_by events items Any (start_of segments events g) (start_of segments events (suc g) - start_of segments events g) j h in
      (r.0, r.1, (r.2, omega (arith, up, r.3), r.4), r.5)

  harmless_item : (g : ℕ) (j : Item) → at ≤ g → ((s : Segment) → slice_get segments g ≡ Some s → s.harmless ≡ true) →
      operand_has Any segments events items g j ≡ true → is_harmless j ≡ true
  harmless_item g j le all h =
      let s = standing_at g j h in
      let r = of_operand g j le h in
      kept.harmless g r.0 r.1 le (ap harmless_of s.1 ∙ all s.0 s.1) r.2 j r.3

  pub harmless_none : ((g : ℕ) (s : Segment) → at ≤ g → slice_get segments g ≡ Some s → s.harmless ≡ true) →
      NoneBetween Any rows segments events items at
  harmless_none all g h le more differ i j c =
      no_harm (stands_at rows) i j (harmless_item g i le (λ s e. all g s le e) c.0) (harmless_item h j more (λ s e. all h s more e) c.1) c.2

  -- ---- few items
  no_body : (e : Logged) (j : Item) → e.foot ≡ None → event_has items (Some e) j ≡ true → touched items e.from (e.to - e.from) j ≡ true
  no_body e j none h =
      ⊎_elim (λ own. own) (λ body. absurd (let e2 : false ≡ true = sym (ap (λ b. body_has b j) none) ∙ body in cc))
      (or_split (touched items e.from (e.to - e.from) j) (body_has e.foot j) h)

  item_of : (g : ℕ) (j : Item) → at ≤ g → ((k : ℕ) (e : Logged) → start_of segments events at ≤ k → slice_get events k ≡ Some e → e.foot ≡ None) →
      operand_has Any segments events items g j ≡ true →
      (p : ℕ) × (x : Item) × (items_of segments items g ≤ p) × (p < items_of segments items (suc g)) × (slice_get items p ≡ Some x) × (stands_for x j ≡ true)
  item_of g j le alone h =
      let r = of_operand g j le h in
      let low : start_of segments events at ≤ start_of segments events g =
      rises_to (start_of segments events) at at g (λ k more. (kept.sorted k more).0) (omega arith) le in
      let o = kept.own g r.0 r.1 le r.2 in
      let t = touched_by items (r.1).from ((r.1).to - (r.1).from) j (no_body r.1 j (alone r.0 r.1 (omega (arith, low, r.2.0)) r.2.2) r.3) in
      (t.0, t.1, omega (arith, o.0, t.2), omega (arith, o.1, t.2, t.3), t.4, t.5)

  pub few_none : ((k : ℕ) (e : Logged) → start_of segments events at ≤ k → slice_get events k ≡ Some e → e.foot ≡ None) →
      ((g : ℕ) → at ≤ g → AreApart rows items (items_of segments items g) (items_of segments items (suc g))) → NoneBetween Any rows segments events items at
  few_none alone apart_items = between rows segments events items Any at pairs
    where
      pairs : (g h : ℕ) → at ≤ g → g < h → NoClash Any rows (operand_has Any segments events items g) (operand_has Any segments events items h)
      pairs g h le less i j c =
          let a = item_of g i le alone c.0 in
          let b = item_of h j (omega arith) alone c.1 in
          let up : items_of segments items (suc g) ≤ items_of segments items h =
          rises_to (items_of segments items) at (suc g) h kept.items_rise (omega arith) less in
          let some : items_conflict (stands_at rows) a.1 b.1 ≡ true = stand_conflict (stands_at rows) a.1 b.1 i j a.5 b.5 c.2 in
          let none : items_conflict (stands_at rows) a.1 b.1 ≡ false =
          apart_items g le a.0 b.0 a.2 a.3 (omega (arith, up, b.2)) a.1 b.1 a.4 b.4 in
          absurd (cc)

  -- ---- sets, and large bodies
  large_or_small : (b : Bool) → (b ≡ true) ⊎ (b ≡ false)
  large_or_small true = inl refl
  large_or_small false = inr refl

  by_set : (g k : ℕ) (e : Logged) (j : Item) → at ≤ g → IsOf segments events g k e → event_has items (Some e) j ≡ true →
      (small_has items e j ≡ true) ⊎ ((i : ℕ) × (large_of segments large g ≤ i) × (i < large_of segments large (suc g)) × (listed_has events
      (slice_get large i) j ≡ true))
  by_set g k e j le of h =
      ⊎_elim
      (λ own. inl (or_left (touched items e.from (e.to - e.from) j) (not e.large && body_has e.foot j) own))
      (λ body. ⊎_elim
      (λ big. let l = kept.listed g k e le of big in
      inr (l.0, l.1, l.2, ap (λ o. listed_has events o j) l.3 ∙ ap (λ o. own_body o j) of.2 ∙ body))
      (λ little. inl (or_right (touched items e.from (e.to - e.from) j) (not e.large && body_has e.foot j)
      (both (not e.large) (body_has e.foot j) (ap not little) body)))
      (large_or_small e.large))
      (or_split (touched items e.from (e.to - e.from) j) (body_has e.foot j) h)

  pub sets_none : (g h : ℕ) (all foot : Foot) → at ≤ g → at ≤ h → Gathers segments events items g all → Gathers segments events items h foot →
      NoClash Any rows (holds all) (holds foot) →
      ((i : ℕ) → large_of segments large g ≤ i → i < large_of segments large (suc g) → NoClash Any rows (listed_has events (slice_get large i))
      (holds foot)) →
      ((i : ℕ) → large_of segments large h ≤ i → i < large_of segments large (suc h) → NoClash Any rows (listed_has events (slice_get large i)) (holds all)) →
      ((i k : ℕ) → large_of segments large g ≤ i → i < large_of segments large (suc g) → large_of segments large h ≤ k → k < large_of segments large (suc h) →
      NoClash Any rows (listed_has events (slice_get large i)) (listed_has events (slice_get large k))) →
      NoClash Any rows (operand_has Any segments events items g) (operand_has Any segments events items h)
  sets_none g h all foot le more gathers has small first second twice i j c =
      let a = of_operand g i le c.0 in
      let b = of_operand h j more c.1 in
      ⊎_elim
      (λ s. ⊎_elim
      (λ t. small i j (gathers a.0 a.1 a.2 i s, has b.0 b.1 b.2 j t, c.2))
      (λ t. none_turned rows Any (listed_has events (slice_get large t.0)) (holds all) (second t.0 t.1 t.2) i j (gathers a.0 a.1 a.2 i s, t.3, c.2))
      (by_set h b.0 b.1 j more b.2 b.3))
      (λ s. ⊎_elim
      (λ t. first s.0 s.1 s.2 i j (s.3, has b.0 b.1 b.2 j t, c.2))
      (λ t. twice s.0 t.0 s.1 s.2 t.1 t.2 i j (s.3, t.3, c.2))
      (by_set h b.0 b.1 j more b.2 b.3))
      (by_set g a.0 a.1 i le a.2 a.3)

  -- ---- one operand after another
  larges_rise : (g h : ℕ) → at ≤ g → g ≤ h → large_of segments large g ≤ large_of segments large h
  larges_rise g h le more = rises_to (large_of segments large) at g h kept.large_rise le more

  pub joined_none : (g h : ℕ) (old now foot : Foot) → at ≤ g → g < h → Gathers segments events items g old → Gathers segments events items h foot →
      Joined rows segments events large at h old now foot →
      NoClash Any rows (operand_has Any segments events items g) (operand_has Any segments events items h)
  joined_none g h old now foot le less has own d =
      let low = larges_rise at g (omega arith) le in
      let high = larges_rise (suc g) h (omega arith) (omega (arith, less)) in
      sets_none g h old foot le (omega (arith, le, less)) has own d.small (λ i from to. d.first i (omega (arith, low, from)) (omega (arith, high, to)))
      (λ i from to. d.second i from to)
      (λ i k from to start end. none_turned rows Any (listed_has events (slice_get large k)) (listed_has events (slice_get large i))
      (d.twice i (omega (arith, low, from)) (omega (arith, high, to)) k start end))

  pub joined_more : (n : ℕ) (old now foot : Foot) → at ≤ n → Gathers segments events items n foot →
      ((g : ℕ) → g < n → at ≤ g → Gathers segments events items g old) → Joined rows segments events large at n old now foot →
      ((h : ℕ) → h < n → (g : ℕ) → at ≤ g → g < h → NoClash Any rows (operand_has Any segments events items g) (operand_has Any segments events items h)) →
      (h : ℕ) → h < n + 1 → (g : ℕ) → at ≤ g → g < h → NoClash Any rows (operand_has Any segments events items g) (operand_has Any segments events items h)
  joined_more n old now foot le own has d none =
      below_more _ _ none (λ g more less. joined_none g n old now foot more less (has g less more) own d)

  nothing_past : (h : ℕ) (f : Item → Bool) → length segments ≤ h → NoClash Any rows f (operand_has Any segments events items h)
  nothing_past h f past i j c =
      let none = operand_past segments events items Any h j past in
      let some = c.1 in
      absurd (cc)

  pub joined_end : (n : ℕ) → length segments ≤ n →
      ((h : ℕ) → h < n → (g : ℕ) → at ≤ g → g < h → NoClash Any rows (operand_has Any segments events items g) (operand_has Any segments events items h)) →
      NoneBetween Any rows segments events items at
  joined_end n past none =
      between rows segments events items Any at
      (λ g h le less. ⊎_elim (λ before. none h before g le less)
      (λ behind. nothing_past h (operand_has Any segments events items g) (omega (arith, past, behind)))
      (before_or_past h n))
