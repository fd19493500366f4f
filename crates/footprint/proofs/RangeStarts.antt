-- The order in which ranges are kept, and bytes by what the map of ends gives.
use Rattle.std.proofs.Common.{◌≡◌, ℕ, ◌<◌, ◌≤◌, Bool, true, false, cond, ◌&&◌, ◌||◌, refl, sym, ap, ◌∙◌, subst, arith, List, [], ◌∷◌, ◌++◌, Some, None, Option}
use Rattle.std.specs.Prelude.{nat_lt, nat_le}
use Rattle.std.specs.declared.cmp.Ordering.{Ordering}
use Rattle.std.specs.declared.cmp.Ordering.TheVariants.{Less, Equal, Greater}
use Rattle.std.specs.Ordering.{nat_cmp, ordering_then, ordering_reverse, is_eq, is_gt, is_lt}
use Rattle.std.specs.Cmp.{IsTotalOrder}
use Rattle.std.specs.List.{All}
use Rattle.std.specs.Map.{lookup}
use Rattle.std.specs.Option.{IsSome, IfSome}
use Rattle.std.specs.List.{slice_get}
use Rattle.std.specs.declared.ops.Bound.TheVariants.{Included, Unbounded}
use Rattle.std.specs.BTreeMap.{BTreeMap, get, is_at, IsOrdered}
use Rattle.std.specs.BTreeMap.Range.{IsRangeOf, IsEntryInRange}
use Rattle.std.proofs.lemmas.Bool.Decides.{nat_tests}
use Rattle.std.proofs.lemmas.Cmp.{on_total, then_total, nat_cmp_total, tied_itself}
use Rattle.std.proofs.lemmas.List.Elements.{All-head, All-tail}
use Rattle.std.proofs.lemmas.Map.Lookups.{exact_pairs, exact_unsigned}
use Rattle.std.proofs.lemmas.Map.Views.{All-found}
use Rattle.ub_base.specs.declared.names.ObjName.{ObjName}
use Rattle.ub_base.specs.Names.{same_object}
use Rattle.ub_base.specs.NameOrders.{object_cmp}
use Rattle.ub_base.specs.contracts.names.ObjNameOrd.TheImpl.Laws as object_laws
use Rattle.ub_base.proofs.NameLemmas.{same_object_is, same_object_refl, tie_object}
use Rattle.footprint.specs.Ranges.{range_has, has_byte, start_cmp, end_at, Held}

pub object_total : IsTotalOrder object_cmp
object_total = object_laws.total-law

pub object_exact : (x y : ObjName) → object_cmp x y ≡ Equal → x ≡ y
object_exact x y h = same_object_is x y (sym (tie_object x y) ∙ ap is_eq h)

pub start_total : IsTotalOrder start_cmp
start_total = then_total (on_total (λ (p : ObjName × ℕ). p.0) object_total) (on_total (λ (p : ObjName × ℕ). p.1) nat_cmp_total)

pub start_exact : (x y : ObjName × ℕ) → start_cmp x y ≡ Equal → x ≡ y
start_exact = exact_pairs object_cmp nat_cmp object_exact exact_unsigned

pub is_equal : (o : Ordering) → is_eq o ≡ true → o ≡ Equal
is_equal Less h = absurd (cc)
is_equal Equal h = refl
is_equal Greater h = absurd (cc)

start_same : (x : ObjName) (f g : ℕ) → start_cmp (x, f) (x, g) ≡ nat_cmp f g
start_same x f g = ap (λ o. ordering_then o (nat_cmp f g)) (tied_itself object_total x)

in_own : (x : ObjName) (f e i : ℕ) → f ≤ i → i < e → range_has ((x, f), e) x i ≡ true
in_own x f e i le lt = grind (arith, nat_tests, same_object_refl)

pub or_true : (a b : Bool) → b ≡ true → (a || b) ≡ true
or_true true b h = refl
or_true false b h = h

pub first_of_or : (a b : Bool) → a ≡ true → (a || b) ≡ true
first_of_or a b h = ap (λ c. c || b) h

found_step : (b : Bool) (r : (ObjName × ℕ) × ℕ) (rs : List ((ObjName × ℕ) × ℕ)) (x : ObjName) (f e i : ℕ) → is_at (start_cmp (x, f)) r.0 ≡ b →
    cond b (Some r.1) (lookup (is_at (start_cmp (x, f))) rs) ≡ Some e → f ≤ i → i < e
    → (lookup (is_at (start_cmp (x, f))) rs ≡ Some e → has_byte rs x i ≡ true) → (range_has r x i || has_byte rs x i) ≡ true
found_step true r rs x f e i t h le lt more =
    let key : (x, f) ≡ r.0 = start_exact (x, f) r.0 (is_equal _ t) in
    let end : r.1 ≡ e = cc in
    first_of_or (range_has r x i) (has_byte rs x i)
    (subst (λ (q : (ObjName × ℕ) × ℕ). range_has q x i ≡ true) (λ j. (key j, sym end j)) (in_own x f e i le lt))
found_step false r rs x f e i t h le lt more = or_true (range_has r x i) (has_byte rs x i) (more h)

pub has_from_found : (rs : List ((ObjName × ℕ) × ℕ)) (x : ObjName) (f e i : ℕ) → lookup (is_at (start_cmp (x, f))) rs ≡ Some e → f ≤ i → i < e →
    has_byte rs x i ≡ true
has_from_found [] x f e i h le lt = absurd (cc)
has_from_found (r ∷ rs) x f e i h le lt =
    found_step (is_at (start_cmp (x, f)) r.0) r rs x f e i refl h le lt (λ g. has_from_found rs x f e i g le lt)

pub has_from_held : (ends : BTreeMap (ObjName × ℕ) ℕ) (x : ObjName) (i : ℕ) → Held ends x i → has_byte ends.entries x i ≡ true
has_from_held ends x i h = has_from_found ends.entries x h.0 h.1 i h.2 h.3 h.4

pub or_split : (a b : Bool) {C : Type 0} → (a || b) ≡ true → (a ≡ true → C) → (b ≡ true → C) → C
or_split true b h f g = f refl
or_split false b h f g = g h

-- a range that has the byte is among those of which something is true
entry_of : (P : (ObjName × ℕ) × ℕ → Type 0) (rs : List ((ObjName × ℕ) × ℕ)) (x : ObjName) (i : ℕ) → All P rs → has_byte rs x i ≡ true →
    (r : (ObjName × ℕ) × ℕ) × P r × (range_has r x i ≡ true)
entry_of P [] x i all h = absurd (cc)
entry_of P (r ∷ rs) x i all h =
    or_split (range_has r x i) (has_byte rs x i) h (λ t. (r, All-head P r rs all, t)) (λ t. entry_of P rs x i (All-tail P r rs all) t)

pub and_left : (a b : Bool) → (a && b) ≡ true → a ≡ true
and_left true b h = refl
and_left false b h = absurd (cc)

pub and_right : (a b : Bool) → (a && b) ≡ true → b ≡ true
and_right true b h = h
and_right false b h = absurd (cc)

pub within : (f i e : ℕ) → (nat_le f i && nat_lt i e) ≡ true → (f ≤ i) × (i < e)
within f i e h = (grind (arith, nat_tests), grind (arith, nat_tests))

pub held_from_has : (ends : BTreeMap (ObjName × ℕ) ℕ) (x : ObjName) (i : ℕ) → IsOrdered start_cmp ends → has_byte ends.entries x i ≡ true → Held ends x i
held_from_has ends x i ordered h =
    let r = entry_of (λ (e : (ObjName × ℕ) × ℕ). get start_cmp ends e.0 ≡ Some e.1) ends.entries x i (All-found start_total ends ordered) h in
    let own : r.0.0.0 ≡ x = same_object_is r.0.0.0 x (and_left _ _ r.2) in
    let bounds = within r.0.0.1 i r.0.1 (and_right (same_object r.0.0.0 x) _ r.2) in
    (r.0.0.1, r.0.1, subst (λ (y : ObjName). end_at ends y r.0.0.1 ≡ Some r.0.1) own r.1, bounds.0, bounds.1)

-- where the one key stands to the other
pub up_to : (x : ObjName) (f i : ℕ) → f ≤ i → is_gt (start_cmp (x, f) (x, i)) ≡ false
up_to x f i le = rw (start_same x f i) (grind (arith, nat_tests))

not_less : (x : ObjName) (g f : ℕ) → is_lt (start_cmp (x, g) (x, f)) ≡ false → f ≤ g
not_less x g f h =
    let e : is_lt (nat_cmp g f) ≡ false = ap is_lt (sym (start_same x g f)) ∙ h in
    grind (arith, nat_tests)

not_more : (x : ObjName) (g f : ℕ) → is_gt (start_cmp (x, g) (x, f)) ≡ false → g ≤ f
not_more x g f h =
    let e : is_gt (nat_cmp g f) ≡ false = ap is_gt (sym (start_same x g f)) ∙ h in
    grind (arith, nat_tests)

none_unless : (o : Option ℕ) → (IsSome o → ⊥) → o ≡ None
none_unless None h = refl
none_unless (Some e) h = absurd (h refl)

some_of : (o : Option ℕ) (e : ℕ) → o ≡ Some e → IsSome o
some_of o e h = subst (λ (p : Option ℕ). IsSome p) (sym h) refl

-- a key of another object
other_key : (k : ObjName × ℕ) (x : ObjName) (f i : ℕ) (o : Ordering) → object_cmp k.0 x ≡ o → (k.0 ≡ x → ⊥) → is_gt (start_cmp k (x, i)) ≡ false →
    start_cmp k (x, f) ≡ Less
other_key k x f i Less e apart h = ap (λ p. ordering_then p (nat_cmp k.1 f)) e
other_key k x f i Equal e apart h = absurd (apart (object_exact k.0 x e))
other_key k x f i Greater e apart h =
    let g : is_gt (start_cmp k (x, i)) ≡ true = ap (λ p. is_gt (ordering_then p (nat_cmp k.1 i))) e in
    absurd (cc)

other_key_behind : (k : ObjName × ℕ) (x : ObjName) (f i : ℕ) (o : Ordering) → object_cmp k.0 x ≡ o → (k.0 ≡ x → ⊥) → is_gt (start_cmp (x, i) k) ≡ false →
    start_cmp k (x, f) ≡ Greater
other_key_behind k x f i Greater e apart h = ap (λ p. ordering_then p (nat_cmp k.1 f)) e
other_key_behind k x f i Equal e apart h = absurd (apart (object_exact k.0 x e))
other_key_behind k x f i Less e apart h =
    let turned : object_cmp x k.0 ≡ Greater = object_total.antisymm x k.0 ∙ ap ordering_reverse e in
    let g : is_gt (start_cmp (x, i) k) ≡ true = ap (λ p. is_gt (ordering_then p (nat_cmp i k.1))) turned in
    absurd (cc)

pub record LastFacts (ends : BTreeMap (ObjName × ℕ) ℕ) (x : ObjName) (i : ℕ) (e : (ObjName × ℕ) × ℕ) : Type 0 where
  pub early : e.0.1 ≤ i
  pub found : end_at ends x e.0.1 ≡ Some e.1
  pub last : (f g : ℕ) → f ≤ i → end_at ends x f ≡ Some g → f ≤ e.0.1

pub last_none : (ends : BTreeMap (ObjName × ℕ) ℕ) (x : ObjName) (i : ℕ) (r : List ((ObjName × ℕ) × ℕ)) →
    IsRangeOf start_cmp Unbounded (Included (x, i)) ends r → r ≡ [] → (f : ℕ) → f ≤ i → end_at ends x f ≡ None
last_none ends x i r h empty f le = h.5 empty (x, f) (tt, up_to x f i le)

pub last_own : (ends : BTreeMap (ObjName × ℕ) ℕ) (x : ObjName) (i : ℕ) (r t : List ((ObjName × ℕ) × ℕ)) (e : (ObjName × ℕ) × ℕ) →
    IsRangeOf start_cmp Unbounded (Included (x, i)) ends r → r ≡ t ++ e ∷ [] → e.0.0 ≡ x → LastFacts ends x i e
last_own ends x i r t e h is own =
    let here = h.3 e t is in
    record {
      early = not_more x e.0.1 i (subst (λ (y : ObjName). is_gt (start_cmp (y, e.0.1) (x, i)) ≡ false) own here.0.1);
      found = subst (λ (y : ObjName). end_at ends y e.0.1 ≡ Some e.1) own here.1;
      last = λ f g le got. not_less x e.0.1 f (subst (λ (y : ObjName). is_lt (start_cmp (y, e.0.1) (x, f)) ≡ false) own
          (h.4 e t is (x, f) (tt, up_to x f i le) (some_of _ g got)));
    }

pub last_other : (ends : BTreeMap (ObjName × ℕ) ℕ) (x : ObjName) (i : ℕ) (r t : List ((ObjName × ℕ) × ℕ)) (e : (ObjName × ℕ) × ℕ) →
    IsRangeOf start_cmp Unbounded (Included (x, i)) ends r → r ≡ t ++ e ∷ [] → (e.0.0 ≡ x → ⊥) → (f : ℕ) → f ≤ i → end_at ends x f ≡ None
last_other ends x i r t e h is apart f le =
    none_unless (end_at ends x f) (λ some.
    let less : start_cmp e.0 (x, f) ≡ Less = other_key e.0 x f i (object_cmp e.0.0 x) refl apart (h.3 e t is).0.1 in
    let never : is_lt (start_cmp e.0 (x, f)) ≡ false = h.4 e t is (x, f) (tt, up_to x f i le) some in
    let ever : is_lt (start_cmp e.0 (x, f)) ≡ true = ap is_lt less in
    absurd (cc))

pub record NextFacts (ends : BTreeMap (ObjName × ℕ) ℕ) (x : ObjName) (i : ℕ) (e : (ObjName × ℕ) × ℕ) : Type 0 where
  pub late : i ≤ e.0.1
  pub found : end_at ends x e.0.1 ≡ Some e.1
  pub first : (f g : ℕ) → i ≤ f → end_at ends x f ≡ Some g → e.0.1 ≤ f

pub next_none : (ends : BTreeMap (ObjName × ℕ) ℕ) (x : ObjName) (i : ℕ) (r : List ((ObjName × ℕ) × ℕ)) →
    IsRangeOf start_cmp (Included (x, i)) Unbounded ends r → r ≡ [] → (f : ℕ) → i ≤ f → end_at ends x f ≡ None
next_none ends x i r h empty f le = h.5 empty (x, f) (up_to x i f le, tt)

next_here : (ends : BTreeMap (ObjName × ℕ) ℕ) (x : ObjName) (i : ℕ) (r t : List ((ObjName × ℕ) × ℕ)) (e : (ObjName × ℕ) × ℕ) →
    IsRangeOf start_cmp (Included (x, i)) Unbounded ends r → r ≡ e ∷ t → IsEntryInRange start_cmp (Included (x, i)) Unbounded ends e
next_here ends x i r t e h is =
    subst (λ (s : List ((ObjName × ℕ) × ℕ)). IfSome (slice_get s 0) (IsEntryInRange start_cmp (Included (x, i)) Unbounded ends)) is h.1

next_least : (ends : BTreeMap (ObjName × ℕ) ℕ) (x : ObjName) (i : ℕ) (r t : List ((ObjName × ℕ) × ℕ)) (e : (ObjName × ℕ) × ℕ) →
    IsRangeOf start_cmp (Included (x, i)) Unbounded ends r → r ≡ e ∷ t → (f : ℕ) → i ≤ f → IsSome (end_at ends x f) → is_gt (start_cmp e.0 (x, f)) ≡ false
next_least ends x i r t e h is f le some =
    subst (λ (s : List ((ObjName × ℕ) × ℕ)). IfSome (slice_get s 0) (λ d. is_gt (start_cmp d.0 (x, f)) ≡ false)) is (h.2 (x, f) (up_to x i f le, tt) some)

pub next_own : (ends : BTreeMap (ObjName × ℕ) ℕ) (x : ObjName) (i : ℕ) (r t : List ((ObjName × ℕ) × ℕ)) (e : (ObjName × ℕ) × ℕ) →
    IsRangeOf start_cmp (Included (x, i)) Unbounded ends r → r ≡ e ∷ t → e.0.0 ≡ x → NextFacts ends x i e
next_own ends x i r t e h is own =
    let here = next_here ends x i r t e h is in
    record {
      late = not_more x i e.0.1 (subst (λ (y : ObjName). is_gt (start_cmp (x, i) (y, e.0.1)) ≡ false) own here.0.0);
      found = subst (λ (y : ObjName). end_at ends y e.0.1 ≡ Some e.1) own here.1;
      first = λ f g le got. not_more x e.0.1 f
          (subst (λ (y : ObjName). is_gt (start_cmp (y, e.0.1) (x, f)) ≡ false) own (next_least ends x i r t e h is f le (some_of _ g got)));
    }

pub next_other : (ends : BTreeMap (ObjName × ℕ) ℕ) (x : ObjName) (i : ℕ) (r t : List ((ObjName × ℕ) × ℕ)) (e : (ObjName × ℕ) × ℕ) →
    IsRangeOf start_cmp (Included (x, i)) Unbounded ends r → r ≡ e ∷ t → (e.0.0 ≡ x → ⊥) → (f : ℕ) → i ≤ f → end_at ends x f ≡ None
next_other ends x i r t e h is apart f le =
    none_unless (end_at ends x f) (λ some.
    let here = next_here ends x i r t e h is in
    let more : start_cmp e.0 (x, f) ≡ Greater = other_key_behind e.0 x f i (object_cmp e.0.0 x) refl apart here.0.0 in
    let never : is_gt (start_cmp e.0 (x, f)) ≡ false = next_least ends x i r t e h is f le some in
    let ever : is_gt (start_cmp e.0 (x, f)) ≡ true = ap is_gt more in
    absurd (cc))
