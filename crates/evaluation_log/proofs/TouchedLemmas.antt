-- What a range of the log touched, one step further.
use Rattle.std.proofs.Common.{◌≡◌, ◌≤◌, ◌+◌, ◌-◌, max, ℕ, suc, Bool, true, false, ◌&&◌, ◌||◌, List, refl, sym, ap, ◌∙◌, arith}
use Rattle.std.specs.Prelude.{slice_get}
use Rattle.ub_base.specs.declared.names.Item.{Item}
use Rattle.evaluation_log.specs.declared.log.Logged.{Logged}
use Rattle.evaluation_log.specs.declared.sought.Sought.{Sought}
use Rattle.evaluation_log.specs.Touched.{some_stands, touched, event_has, is_sought, range_has}

pub touched_none : (items : List Item) (from : ℕ) (j : Item) → touched items from (from - from) j ≡ false
touched_none items from j =
    let e : from - from ≡ 0 = omega arith in
    ap (λ (n : ℕ). touched items from n j) e

pub touched_step : (items : List Item) (from at : ℕ) (j : Item) → from ≤ at →
    touched items from (at + 1 - from) j ≡ (touched items from (at - from) j || some_stands (slice_get items at) j)
touched_step items from at j le =
    let n : at + 1 - from ≡ suc (at - from) = omega arith in
    let k : from + (at - from) ≡ at = omega arith in
    ap (λ (m : ℕ). touched items from m j) n ∙ ap (λ (m : ℕ). touched items from (at - from) j || some_stands (slice_get items m) j) k

pub range_none : (events : List Logged) (items : List Item) (sought : Sought) (from : ℕ) (j : Item) → range_has events items sought from
    (from - from) j ≡ false
range_none events items sought from j =
    let e : from - from ≡ 0 = omega arith in
    ap (λ (n : ℕ). range_has events items sought from n j) e

pub range_step : (events : List Logged) (items : List Item) (sought : Sought) (from at : ℕ) (j : Item) → from ≤ at →
    range_has events items sought from (at + 1 - from) j ≡
    (range_has events items sought from (at - from) j || (is_sought sought (slice_get events at) && event_has items (slice_get events at) j))
range_step events items sought from at j le =
    let n : at + 1 - from ≡ suc (at - from) = omega arith in
    let k : from + (at - from) ≡ at = omega arith in
    ap (λ (m : ℕ). range_has events items sought from m j) n ∙
    ap (λ (m : ℕ). range_has events items sought from (at - from) j || (is_sought sought (slice_get events m) && event_has items (slice_get events m) j)) k

-- ---- sets that grow by what is looked at
pub or_none : (p q : Bool) → q ≡ false → p ≡ (p || q)
or_none true q h = refl
or_none false q h = sym h

pub or_next : (p q r : Bool) → ((p || q) || r) ≡ (p || (q || r))
or_next true q r = refl
or_next false q r = refl

pub added_none : (items : List Item) (from : ℕ) (b : Bool) (j : Item) → b ≡ (b || touched items from (from - from) j)
added_none items from b j = or_none b _ (touched_none items from j)

pub added_step : (items : List Item) (from at : ℕ) (old now next : Bool) (j : Item) → from ≤ at → next ≡ (now || some_stands (slice_get items at) j) →
    now ≡ (old || touched items from (at - from) j) → next ≡ (old || touched items from (at + 1 - from) j)
added_step items from at old now next j le step has =
    step ∙ ap (λ b. b || some_stands (slice_get items at) j) has ∙ or_next old (touched items from (at - from) j) (some_stands (slice_get items at) j) ∙
    ap (λ b. old || b) (sym (touched_step items from at j le))

pub gathered_none : (events : List Logged) (items : List Item) (sought : Sought) (from : ℕ) (b : Bool) (j : Item) → b ≡ false →
    b ≡ range_has events items sought from (from - from) j
gathered_none events items sought from b j h = h ∙ sym (range_none events items sought from j)

pub gathered_step : (events : List Logged) (items : List Item) (sought : Sought) (from at : ℕ) (now next : Bool) (j : Item) → from ≤ at →
    next ≡ (now || (is_sought sought (slice_get events at) && event_has items (slice_get events at) j)) →
    now ≡ range_has events items sought from (at - from) j → next ≡ range_has events items sought from (at + 1 - from) j
gathered_step events items sought from at now next j le step has =
    step ∙ ap (λ b. b || (is_sought sought (slice_get events at) && event_has items (slice_get events at) j)) has ∙
    sym (range_step events items sought from at j le)

-- at the end all was looked at
pub count_is : (from to at : ℕ) → from ≤ at → to ≤ at → at ≤ max from to → at - from ≡ to - from
count_is from to at le past bound = omega arith
