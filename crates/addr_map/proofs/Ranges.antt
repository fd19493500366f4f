-- What the ranges of a map give.
use Rattle.std.proofs.Common.{◌≡◌, ℕ, Bool, true, false, ◌&&◌, refl, ◌∙◌, subst, List, [], ◌∷◌, ◌++◌, Some, None}
use Rattle.std.specs.Prelude.{nat_lt, nat_le}
use Rattle.std.specs.Ordering.{nat_cmp}
use Rattle.std.specs.declared.ops.Bound.TheVariants.{Included, Excluded, Unbounded}
use Rattle.std.specs.BTreeMap.Range.{range_contains, entries_between}
use Rattle.addr_map.specs.declared.map.Row.{Row}
use Rattle.addr_map.specs.Rows.{first_row}
use Rattle.addr_map.specs.Sound.{rows_in, Keyed, last_row}
use Rattle.addr_map.proofs.Tests.{up_to_is, not_above_is, below_is}
use Rattle.addr_map.proofs.Last.{last_some, last_none, first_some, first_none}

and_true : (b : Bool) → (b && true) ≡ b
and_true true = refl
and_true false = refl

abbrev up_to : ℕ → ℕ → Bool
up_to a q = range_contains nat_cmp Unbounded (Included a) q

abbrev below : ℕ → ℕ → Bool
below a q = range_contains nat_cmp Unbounded (Excluded a) q

abbrev from : ℕ → ℕ → Bool
from a q = range_contains nat_cmp (Included a) Unbounded q

up_to_test : (a : ℕ) → ◌≡◌ {A = ℕ → Bool} (λ q. up_to a q) (λ q. nat_le q a)
up_to_test a = λ i q. not_above_is a q i

below_test : (a : ℕ) → ◌≡◌ {A = ℕ → Bool} (λ q. below a q) (λ q. nat_lt q a)
below_test a = λ i q. below_is a q i

from_same : (a q : ℕ) → from a q ≡ nat_le a q
from_same a q = and_true _ ∙ up_to_is a q

from_test : (a : ℕ) → ◌≡◌ {A = ℕ → Bool} (λ q. from a q) (λ q. nat_le a q)
from_test a = λ i q. from_same a q i

pub up_to_some : (a : ℕ) (es t : List (ℕ × Row)) (e : ℕ × Row) → Keyed es → entries_between nat_cmp Unbounded (Included a) es ≡ t ++ e ∷ [] →
    last_row (λ c. nat_le c a) (rows_in es) ≡ Some e.1
up_to_some a es t e keyed h =
    subst (λ (f : ℕ → Bool). last_row f (rows_in es) ≡ Some e.1) (up_to_test a) (last_some (λ q. up_to a q) es t e keyed h)

pub up_to_none : (a : ℕ) (es : List (ℕ × Row)) → Keyed es → entries_between nat_cmp Unbounded (Included a) es ≡ [] →
    last_row (λ c. nat_le c a) (rows_in es) ≡ None
up_to_none a es keyed h =
    subst (λ (f : ℕ → Bool). last_row f (rows_in es) ≡ None) (up_to_test a) (last_none (λ q. up_to a q) es keyed h)

pub below_some : (a : ℕ) (es t : List (ℕ × Row)) (e : ℕ × Row) → Keyed es → entries_between nat_cmp Unbounded (Excluded a) es ≡ t ++ e ∷ [] →
    last_row (λ c. nat_lt c a) (rows_in es) ≡ Some e.1
below_some a es t e keyed h =
    subst (λ (f : ℕ → Bool). last_row f (rows_in es) ≡ Some e.1) (below_test a) (last_some (λ q. below a q) es t e keyed h)

pub below_none : (a : ℕ) (es : List (ℕ × Row)) → Keyed es → entries_between nat_cmp Unbounded (Excluded a) es ≡ [] →
    last_row (λ c. nat_lt c a) (rows_in es) ≡ None
below_none a es keyed h =
    subst (λ (f : ℕ → Bool). last_row f (rows_in es) ≡ None) (below_test a) (last_none (λ q. below a q) es keyed h)

pub from_some : (a : ℕ) (es : List (ℕ × Row)) (e : ℕ × Row) (t : List (ℕ × Row)) → Keyed es → entries_between nat_cmp (Included a) Unbounded es ≡ e ∷ t →
    first_row (λ r. nat_le a r.base) (rows_in es) ≡ Some e.1
from_some a es e t keyed h =
    subst (λ (f : ℕ → Bool). first_row (λ r. f r.base) (rows_in es) ≡ Some e.1) (from_test a) (first_some (λ q. from a q) es e t keyed h)

pub from_none : (a : ℕ) (es : List (ℕ × Row)) → Keyed es → entries_between nat_cmp (Included a) Unbounded es ≡ [] →
    first_row (λ r. nat_le a r.base) (rows_in es) ≡ None
from_none a es keyed h =
    subst (λ (f : ℕ → Bool). first_row (λ r. f r.base) (rows_in es) ≡ None) (from_test a) (first_none (λ q. from a q) es keyed h)
