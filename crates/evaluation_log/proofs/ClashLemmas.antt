-- Clashes of sets of items, one event further.
use Rattle.std.proofs.Common.{◌≡◌, ◌⊎◌, inl, inr, ⊎_elim, ℕ, ◌≤◌, ◌+◌, ◌-◌, Bool, true, false, ◌&&◌, ◌||◌, List, refl, sym, ap, ◌∙◌, subst, Option, Some, None}
use Rattle.std.proofs.Common.{Result, Ok, Err, IfOk}
use Rattle.std.specs.Prelude.{◌↔◌, IsTrue, slice_get, IfNone, IfSome}
use Rattle.ub_base.specs.declared.names.Item.{Item}
use Rattle.addr_map.specs.declared.map.Row.{Row}
use Rattle.evaluation_log.specs.declared.log.Logged.{Logged}
use Rattle.evaluation_log.specs.declared.sought.Sought.{Sought}
use Rattle.evaluation_log.specs.declared.sought.Sought.TheVariants.{Races, Any}
use Rattle.evaluation_log.specs.Touched.{event_has, is_sought, range_has}
use Rattle.evaluation_log.specs.Clashes.{Clash, SomeClash, NoClash}
use Rattle.evaluation_log.proofs.TouchedLemmas.{range_none, range_step}

or_split : (p q : Bool) → p || q ≡ true → (p ≡ true) ⊎ (q ≡ true)
or_split true q h = inl refl
or_split false q h = inr h

and_parts : (p q : Bool) → p && q ≡ true → (p ≡ true) × (q ≡ true)
and_parts true q h = (refl, h)
and_parts false q h = absurd (cc)

module _ (rows : List Row) where
  pub first_has : (sought : Sought) (f g : Item → Bool) (i j : Item) → Clash sought rows f g i j → f i ≡ true
  first_has Races f g i j c = c.0
  first_has Any f g i j c = c.0

  pub second_has : (sought : Sought) (f g : Item → Bool) (i j : Item) → Clash sought rows f g i j → g j ≡ true
  second_has Races f g i j c = c.1
  second_has Any f g i j c = c.1

  pub for_others : (sought : Sought) (f k g l : Item → Bool) (i j : Item) → k i ≡ true → l j ≡ true → Clash sought rows f g i j → Clash sought rows k l i j
  for_others Races f k g l i j h m c = (h, m, c.2, c.3, c.4)
  for_others Any f k g l i j h m c = (h, m, c.2)

  -- of sets that have the same items
  pub some_like : (sought : Sought) (f k g : Item → Bool) → ((i : Item) → f i ≡ k i) → SomeClash sought rows f g → SomeClash sought rows k g
  some_like sought f k g e c =
      (c.0, c.1, for_others sought f k g g c.0 c.1 (sym (e c.0) ∙ first_has sought f g c.0 c.1 c.2) (second_has sought f g c.0 c.1 c.2) c.2)

  pub none_like : (sought : Sought) (f k g l : Item → Bool) → ((i : Item) → f i ≡ k i) → ((i : Item) → g i ≡ l i) → NoClash sought rows f g →
      NoClash sought rows k l
  none_like sought f k g l e m none i j c =
      none i j (for_others sought k f l g i j (e i ∙ first_has sought k l i j c) (m j ∙ second_has sought k l i j c) c)

  -- one event more
  pub none_more : (sought : Sought) (f h k g : Item → Bool) (b : Bool) → ((i : Item) → k i ≡ (f i || (b && h i))) → NoClash sought rows f g →
      (b ≡ true → NoClash sought rows h g) → NoClash sought rows k g
  none_more sought f h k g b e none more i j c =
      ⊎_elim (λ old. none i j (for_others sought k f g g i j old (second_has sought k g i j c) c))
      (λ new. let p = and_parts b (h i) new in more p.0 i j (for_others sought k h g g i j p.1 (second_has sought k g i j c) c))
      (or_split (f i) (b && h i) (sym (e i) ∙ first_has sought k g i j c))

  -- a test that says no
  pub not_met : (sought : Sought) (f k g : Item → Bool) (b : Bool) → ((i : Item) → f i ≡ k i) → (IsTrue b ↔ SomeClash sought rows f g) → b ≡ false →
      NoClash sought rows k g
  not_met sought f k g b same meets refused i j c =
      subst (λ (r : Bool). IsTrue r → ⊥) (sym refused) (λ h. absurd (cc))
      (meets.1 (i, j, for_others sought k f g g i j (same i ∙ first_has sought k g i j c) (second_has sought k g i j c) c))

  pub none_at_first : (events : List Logged) (items : List Item) (sought : Sought) (from : ℕ) (g : Item → Bool) →
      NoClash sought rows (range_has events items sought from (from - from)) g
  none_at_first events items sought from g i j c =
      let some = first_has sought (range_has events items sought from (from - from)) g i j c in
      let none = range_none events items sought from i in
      absurd (cc)

  none_missing : (items : List Item) (o : Option Logged) (i : Item) → o ≡ None → event_has items o i ≡ true → ⊥
  none_missing items o i e h = let f : false ≡ true = sym (ap (λ (p : Option Logged). event_has items p i) e) ∙ h in absurd (cc)

  -- an event that isn't there has no items
  pub missing : (items : List Item) (o p : Option Logged) → (o ≡ None) ⊎ (p ≡ None) → NoClash Any rows (event_has items o) (event_has items p)
  missing items o p h i j c =
      ⊎_elim (λ e. none_missing items o i e c.0) (λ e. none_missing items p j e c.1) h

  -- ---- the least event so far
  pub turn_none : (events : List Logged) (items : List Item) (sought : Sought) (from at : ℕ) (g : Item → Bool) (best r : Option ℕ) → from ≤ at →
      (r ≡ None → (best ≡ None) × (is_sought sought (slice_get events at) ≡ true → NoClash sought rows (event_has items (slice_get events at)) g)) →
      IfNone best (NoClash sought rows (range_has events items sought from (at - from)) g) →
      IfNone r (NoClash sought rows (range_has events items sought from (at + 1 - from)) g)
  turn_none events items sought from at g best (Some k) le h old = tt
  turn_none events items sought from at g best None le h old =
      let n = h refl in
      none_more sought (range_has events items sought from (at - from)) (event_has items (slice_get events at))
      (range_has events items sought from (at + 1 - from)) g (is_sought sought (slice_get events at)) (λ i. range_step events items sought from at i le)
      (subst (λ (o : Option ℕ). IfNone o (NoClash sought rows (range_has events items sought from (at - from)) g)) n.0 old) n.1

pub turn_some : (P Q : ℕ → Type 0) (at : ℕ) (best r : Option ℕ) → ((r ≡ best) ⊎ ((r ≡ Some at) × P at × Q at)) → IfSome best (λ k. P k × Q k) →
    IfSome r (λ k. P k × Q k)
turn_some P Q at best r h old =
    ⊎_elim (λ e. subst (λ (o : Option ℕ). IfSome o (λ k. P k × Q k)) (sym e) old)
    (λ e. subst (λ (o : Option ℕ). IfSome o (λ k. P k × Q k)) (sym e.0) (e.1, e.2)) h

-- ---- by what a search gave
pub at_none : (P : Type 0) (o : Option ℕ) → o ≡ None → IfNone o P → P
at_none P o e h = subst (λ (x : Option ℕ). IfNone x P) e h

pub at_some : (P : ℕ → Type 0) (o : Option ℕ) (k : ℕ) → o ≡ Some k → IfSome o P → P k
at_some P o k e h = subst (λ (x : Option ℕ). IfSome x P) e h

pub ok_none : {A E : Type 0} (P Q : Type 0) (r : Result (Option A) E) → (P → Q) → IfOk r (λ o. IfNone o P) → IfOk r (λ o. IfNone o Q)
ok_none P Q (Ok (Some x)) f h = tt
ok_none P Q (Ok None) f h = f h
ok_none P Q (Err e) f h = tt

pub not_none : (rows : List Row) (sought : Sought) (f g : Item → Bool) (Q : Type 0) → SomeClash sought rows f g → NoClash sought rows f g → Q
not_none rows sought f g Q c none = absurd (none c.0 c.1 c.2)
