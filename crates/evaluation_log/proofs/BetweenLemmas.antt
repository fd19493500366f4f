-- Operands that stand one behind the other, and clashes between them.
use Rattle.std.proofs.Common.{◌≡◌, ◌≢◌, ◌⊎◌, ⊎_elim, ℕ, zero, suc, ◌≤◌, ◌<◌, ◌+◌, ◌-◌, Bool, true, false, ◌&&◌, ◌||◌, List, length, refl, sym, ap}
use Rattle.std.proofs.Common.{◌∙◌, subst, arith, Option, Some, None}
use Rattle.std.specs.Prelude.{slice_get, IfNone, IfSome}
use Rattle.std.proofs.lemmas.Option.{slice_get_past}
use Rattle.ub_base.specs.declared.names.Item.{Item}
use Rattle.addr_map.specs.declared.map.Row.{Row}
use Rattle.addr_map.specs.Conflict.{conflicts_one, stands_at}
use Rattle.evaluation_log.specs.declared.log.Logged.{Logged}
use Rattle.evaluation_log.specs.declared.log.Segment.{Segment}
use Rattle.evaluation_log.specs.declared.sought.Sought.{Sought}
use Rattle.evaluation_log.specs.declared.sought.Sought.TheVariants.{Races, Any}
use Rattle.evaluation_log.specs.Touched.{event_has, is_sought, range_has, first_event, start_of}
use Rattle.evaluation_log.specs.Clashes.{Clash, SomeClash, NoClash, AreSorted, operand_has, behind_has, NoneBehind, NoneBetween}
use Rattle.evaluation_log.proofs.TouchedLemmas.{or_none, or_next}
use Rattle.evaluation_log.proofs.ClashLemmas.{first_has, second_has, for_others, none_like}

-- ---- ranges, one behind the other
range_join : (events : List Logged) (items : List Item) (sought : Sought) (from m n : ℕ) (j : Item) →
    range_has events items sought from (m + n) j ≡ (range_has events items sought from m j || range_has events items sought (from + m) n j)
range_join events items sought from m zero j =
    let e : m + zero ≡ m = omega arith in
    ap (λ (k : ℕ). range_has events items sought from k j) e ∙ or_none (range_has events items sought from m j) false refl
range_join events items sought from m (suc n) j =
    let e : m + suc n ≡ suc (m + n) = omega arith in
    let k : from + (m + n) ≡ from + m + n = omega arith in
    ap (λ (x : ℕ). range_has events items sought from x j) e ∙
    ap (λ (x : ℕ). range_has events items sought from (m + n) j || (is_sought sought (slice_get events x) && event_has items (slice_get events x) j)) k ∙
    ap (λ b. b || (is_sought sought (slice_get events (from + m + n)) && event_has items (slice_get events (from + m + n)) j))
    (range_join events items sought from m n j) ∙
    or_next (range_has events items sought from m j) (range_has events items sought (from + m) n j) _

pub range_parts : (events : List Logged) (items : List Item) (sought : Sought) (a b c : ℕ) (j : Item) → a ≤ b → b ≤ c →
    range_has events items sought a (c - a) j ≡ (range_has events items sought a (b - a) j || range_has events items sought b (c - b) j)
range_parts events items sought a b c j le more =
    let e : c - a ≡ (b - a) + (c - b) = omega arith in
    let k : a + (b - a) ≡ b = omega arith in
    ap (λ (n : ℕ). range_has events items sought a n j) e ∙ range_join events items sought a (b - a) (c - b) j ∙
    ap (λ (n : ℕ). range_has events items sought a (b - a) j || range_has events items sought n (c - b) j) k

or_left : (p q : Bool) → p ≡ true → (p || q) ≡ true
or_left p q h = ap (λ b. b || q) h

or_right : (p q : Bool) → q ≡ true → (p || q) ≡ true
or_right true q h = refl
or_right false q h = h

-- what a part of a range has is in the range
pub range_within : (events : List Logged) (items : List Item) (sought : Sought) (a b c d : ℕ) (j : Item) → a ≤ b → b ≤ c → c ≤ d →
    range_has events items sought b (c - b) j ≡ true → range_has events items sought a (d - a) j ≡ true
range_within events items sought a b c d j le more last h =
    range_parts events items sought a b d j le (omega arith) ∙
    or_right (range_has events items sought a (b - a) j) _
    (range_parts events items sought b c d j more last ∙ or_left _ (range_has events items sought c (d - c) j) h)

rises : (start : ℕ → ℕ) (at g d : ℕ) → ((k : ℕ) → at ≤ k → start k ≤ start (suc k)) → at ≤ g → start g ≤ start (g + d)
rises start at g zero up le = let e : start (g + zero) ≡ start g = ap start (omega arith) in omega (arith, e)
rises start at g (suc d) up le =
    let e : start (g + suc d) ≡ start (suc (g + d)) = ap start (omega arith) in
    let old : start g ≤ start (g + d) = rises start at g d up le in
    let more : start (g + d) ≤ start (suc (g + d)) = up (g + d) (omega arith) in
    omega (arith, e, old, more)

pub rises_to : (start : ℕ → ℕ) (at g h : ℕ) → ((k : ℕ) → at ≤ k → start k ≤ start (suc k)) → at ≤ g → g ≤ h → start g ≤ start h
rises_to start at g h up le more =
    let e : start (g + (h - g)) ≡ start h = ap start (omega arith) in
    let r : start g ≤ start (g + (h - g)) = rises start at g (h - g) up le in
    omega (arith, e, r)

-- ---- a conflict is one whichever comes first
or_swap : (p q : Bool) → (p || q) ≡ (q || p)
or_swap true true = refl
or_swap true false = refl
or_swap false true = refl
or_swap false false = refl

module _ (rows : List Row) where
  turned : (sought : Sought) (f g : Item → Bool) (i j : Item) → Clash sought rows f g i j → Clash sought rows g f j i
  turned Races f g i j c =
      (c.1, c.0, c.3, c.2, or_swap (conflicts_one (λ x n. true) j i) (conflicts_one (λ x n. true) i j) ∙ c.4)
  turned Any f g i j c =
      (c.1, c.0, or_swap (conflicts_one (stands_at rows) j i) (conflicts_one (stands_at rows) i j) ∙ c.2)

  pub none_turned : (sought : Sought) (f g : Item → Bool) → NoClash sought rows f g → NoClash sought rows g f
  none_turned sought f g none i j c = none j i (turned sought g f i j c)

  pub some_turned : (sought : Sought) (f g : Item → Bool) → SomeClash sought rows f g → SomeClash sought rows g f
  some_turned sought f g c = (c.1, c.0, turned sought f g c.0 c.1 c.2)

  -- with what has less
  pub none_less : (sought : Sought) (f g k : Item → Bool) → ((j : Item) → k j ≡ true → g j ≡ true) → NoClash sought rows f g → NoClash sought rows f k
  none_less sought f g k less none i j c =
      none i j (for_others rows sought f f k g i j (first_has rows sought f k i j c) (less j (second_has rows sought f k i j c)) c)

  pub some_like_both : (sought : Sought) (f k g l : Item → Bool) → ((j : Item) → f j ≡ k j) → ((j : Item) → g j ≡ l j) → SomeClash sought rows f g →
      SomeClash sought rows k l
  some_like_both sought f k g l same more c = (
    c.0,
    c.1,
    for_others rows sought f k g l c.0 c.1 (sym (same c.0) ∙ first_has rows sought f g c.0 c.1 c.2)
        (sym (more c.1) ∙ second_has rows sought f g c.0 c.1 c.2) c.2,
  )

  -- sets that have the same items
  pub never : (sought : Sought) (f g k l : Item → Bool) → ((j : Item) → f j ≡ k j) → ((j : Item) → g j ≡ l j) → SomeClash sought rows f g →
      NoClash sought rows k l → ⊥
  never sought f g k l same more c none =
      none c.0 c.1 (for_others rows sought f k g l c.0 c.1 (sym (same c.0) ∙ first_has rows sought f g c.0 c.1 c.2)
      (sym (more c.1) ∙ second_has rows sought f g c.0 c.1 c.2) c.2)

-- ---- the operands from the last one on
pub start_past : (segments : List Segment) (events : List Logged) (g : ℕ) → length segments ≤ g → start_of segments events g ≡ length events
start_past segments events g past = ap (first_event events) (slice_get_past segments g past)

pub none_in : (events : List Logged) (items : List Item) (sought : Sought) (from n : ℕ) (j : Item) → n ≡ 0 → range_has events items sought from n j ≡ false
none_in events items sought from n j e = ap (λ (m : ℕ). range_has events items sought from m j) e

pub rest_past : (segments : List Segment) (events : List Logged) (items : List Item) (sought : Sought) (p : ℕ) (j : Item) → length segments ≤ p →
    range_has events items sought (start_of segments events p) (length events - start_of segments events p) j ≡ false
rest_past segments events items sought p j past =
    let e = start_past segments events p past in
    none_in events items sought (start_of segments events p) (length events - start_of segments events p) j (omega (arith, e))

pub operand_past : (segments : List Segment) (events : List Logged) (items : List Item) (sought : Sought) (p : ℕ) (j : Item) → length segments ≤ p →
    operand_has sought segments events items p j ≡ false
operand_past segments events items sought p j past =
    let e = start_past segments events p past in
    let m = start_past segments events (suc p) (omega arith) in
    none_in events items sought (start_of segments events p) (start_of segments events (suc p) - start_of segments events p) j (omega (arith, e, m))

-- by where its range begins and ends
pub operand_by : (segments : List Segment) (events : List Logged) (items : List Item) (sought : Sought) (g a b : ℕ) (f : Item → Bool) →
    a ≡ start_of segments events g → b ≡ start_of segments events (suc g) → ((j : Item) → f j ≡ range_has events items sought a (b - a) j) →
    (j : Item) → f j ≡ operand_has sought segments events items g j
operand_by segments events items sought g a b f from to has j = has j ∙ (λ t. range_has events items sought (from t) (to t - from t) j)

pub behind_by : (segments : List Segment) (events : List Logged) (items : List Item) (sought : Sought) (g a b : ℕ) (f : Item → Bool) →
    a ≡ start_of segments events (suc g) → b ≡ length events → ((j : Item) → f j ≡ range_has events items sought a (b - a) j) →
    (j : Item) → f j ≡ behind_has sought segments events items g j
behind_by segments events items sought g a b f from to has j = has j ∙ (λ t. range_has events items sought (from t) (to t - from t) j)

pub rest_step : (segments : List Segment) (events : List Logged) (items : List Item) (sought : Sought) (at q p : ℕ) (old now foot : Item → Bool) →
    p ≡ suc q → at ≤ q → AreSorted segments events at → ((j : Item) → now j ≡ (old j || foot j)) →
    ((j : Item) → foot j ≡ operand_has sought segments events items q j) →
    ((j : Item) → old j ≡ range_has events items sought (start_of segments events p) (length events - start_of segments events p) j) →
    (j : Item) → now j ≡ range_has events items sought (start_of segments events q) (length events - start_of segments events q) j
rest_step segments events items sought at q p old now foot e le sorted is own has j =
    let behind : old j ≡ behind_has sought segments events items q j =
    has j ∙ ap (λ (x : ℕ). range_has events items sought (start_of segments events x) (length events - start_of segments events x) j) e in
    is j ∙ ap (λ b. b || foot j) behind ∙ ap (λ b. behind_has sought segments events items q j || b) (own j) ∙
    or_swap (behind_has sought segments events items q j) (operand_has sought segments events items q j) ∙
    sym (range_parts events items sought (start_of segments events q) (start_of segments events (suc q)) (length events) j (sorted q le).0
    (sorted (suc q) (omega arith)).1)

pub same_le : (a b : ℕ) → a ≡ b → b ≤ a
same_le a b h = omega (arith, h)

pub behind_past : (rows : List Row) (segments : List Segment) (events : List Logged) (items : List Item) (sought : Sought) (p : ℕ) → length segments ≤ p →
    NoneBehind sought rows segments events items p
behind_past rows segments events items sought p past g le i j c =
    let some = first_has rows sought (operand_has sought segments events items g) (behind_has sought segments events items g) i j c in
    let none = operand_past segments events items sought g i (omega arith) in
    absurd (cc)

here_or_above : (q g : ℕ) → q ≤ g → (g ≡ q) ⊎ (suc q ≤ g)
here_or_above q g le = grind arith

pub behind_step : (rows : List Row) (segments : List Segment) (events : List Logged) (items : List Item) (sought : Sought) (q p : ℕ)
    (foot rest : Item → Bool) →
    p ≡ suc q → ((j : Item) → foot j ≡ operand_has sought segments events items q j) →
    ((j : Item) → rest j ≡ range_has events items sought (start_of segments events p) (length events - start_of segments events p) j) →
    NoClash sought rows foot rest → NoneBehind sought rows segments events items p → NoneBehind sought rows segments events items q
behind_step rows segments events items sought q p foot rest e own has none old g le =
    ⊎_elim
    (λ here. subst (λ (x : ℕ). NoClash sought rows (operand_has sought segments events items x) (behind_has sought segments events items x)) (sym here)
    (none_like rows sought foot (operand_has sought segments events items q) rest (behind_has sought segments events items q) own
    (λ j. has j ∙ ap (λ (x : ℕ). range_has events items sought (start_of segments events x) (length events - start_of segments events x) j) e) none))
    (λ above. old g (omega (arith, e, above)))
    (here_or_above q g le)

-- ---- what stands behind has what each later operand has
later_in : (segments : List Segment) (events : List Logged) (items : List Item) (sought : Sought) (at g h : ℕ) (j : Item) →
    AreSorted segments events at → at ≤ g → g < h → operand_has sought segments events items h j ≡ true → behind_has sought segments events items g j ≡ true
later_in segments events items sought at g h j sorted le less has =
    range_within events items sought (start_of segments events (suc g)) (start_of segments events h) (start_of segments events (suc h)) (length events) j
    (rises_to (start_of segments events) at (suc g) h (λ k more. (sorted k more).0) (omega arith) less)
    (sorted h (omega arith)).0 (sorted (suc h) (omega arith)).1 has

pub apart : (g h : ℕ) → g ≢ h → (g < h) ⊎ (h < g)
apart g h differ = grind arith

pub between_from_behind : (rows : List Row) (segments : List Segment) (events : List Logged) (items : List Item) (sought : Sought) (at p : ℕ) → p ≤ at →
    AreSorted segments events at → NoneBehind sought rows segments events items p → NoneBetween sought rows segments events items at
between_from_behind rows segments events items sought at p low sorted none g h le more differ =
    ⊎_elim
    (λ less. none_less rows sought (operand_has sought segments events items g) (behind_has sought segments events items g)
    (operand_has sought segments events items h) (λ j has. later_in segments events items sought at g h j sorted le less has) (none g (omega arith)))
    (λ less. none_turned rows sought (operand_has sought segments events items h) (operand_has sought segments events items g)
    (none_less rows sought (operand_has sought segments events items h) (behind_has sought segments events items h)
    (operand_has sought segments events items g) (λ j has. later_in segments events items sought at h g j sorted more less has) (none h (omega arith))))
    (apart g h differ)

-- ---- the first operand so far that clashes with what stands behind it
pub none_step : (rows : List Row) (segments : List Segment) (events : List Logged) (items : List Item) (sought : Sought) (q p : ℕ) (foot rest : Item → Bool)
    (best r : Option ℕ) → p ≡ suc q → ((j : Item) → foot j ≡ operand_has sought segments events items q j) →
    ((j : Item) → rest j ≡ range_has events items sought (start_of segments events p) (length events - start_of segments events p) j) →
    (r ≡ None → (best ≡ None) × NoClash sought rows foot rest) → IfNone best (NoneBehind sought rows segments events items p) →
    IfNone r (NoneBehind sought rows segments events items q)
none_step rows segments events items sought q p foot rest best (Some k) e own has h old = tt
none_step rows segments events items sought q p foot rest best None e own has h old =
    let n = h refl in
    behind_step rows segments events items sought q p foot rest e own has n.1
    (subst (λ (o : Option ℕ). IfNone o (NoneBehind sought rows segments events items p)) n.0 old)

pub some_step : (rows : List Row) (segments : List Segment) (events : List Logged) (items : List Item) (sought : Sought) (q p : ℕ) (foot rest : Item → Bool)
    (best r : Option ℕ) → p ≡ suc q → ((j : Item) → foot j ≡ operand_has sought segments events items q j) →
    ((j : Item) → rest j ≡ range_has events items sought (start_of segments events p) (length events - start_of segments events p) j) →
    ((r ≡ best) ⊎ ((r ≡ Some q) × SomeClash sought rows foot rest)) →
    IfSome best (λ g. SomeClash sought rows (operand_has sought segments events items g) (behind_has sought segments events items g)) →
    IfSome r (λ g. SomeClash sought rows (operand_has sought segments events items g) (behind_has sought segments events items g))
some_step rows segments events items sought q p foot rest best r e own has h old =
    ⊎_elim
    (λ same. subst
    (λ (o : Option ℕ). IfSome o (λ g. SomeClash sought rows (operand_has sought segments events items g) (behind_has sought segments events items g)))
    (sym same) old)
    (λ new. subst
    (λ (o : Option ℕ). IfSome o (λ g. SomeClash sought rows (operand_has sought segments events items g) (behind_has sought segments events items g)))
    (sym new.0)
    (some_like_both rows sought foot (operand_has sought segments events items q) rest (behind_has sought segments events items q) own
    (λ j. has j ∙ ap (λ (x : ℕ). range_has events items sought (start_of segments events x) (length events - start_of segments events x) j) e) new.1))
    h

pub none_end : (rows : List Row) (segments : List Segment) (events : List Logged) (items : List Item) (sought : Sought) (at p : ℕ)
    (best : Option ℕ) → p ≤ at →
    AreSorted segments events at → IfNone best (NoneBehind sought rows segments events items p) →
    IfNone best (NoneBetween sought rows segments events items at)
none_end rows segments events items sought at p (Some k) low sorted none = tt
none_end rows segments events items sought at p None low sorted none = between_from_behind rows segments events items sought at p low sorted none
