-- Values stand in the rows that they were loaded from along a run, so arguments can be taken.
use Rattle.std.proofs.Common.{arith, ◌≡◌, ◌+◌, ◌≤◌, ◌⊎◌, inl, inr, ℕ, zero, suc, ◌==◌, Bool, true, false, not, ◌&&◌, if◌then◌else◌, List, [], ◌∷◌, length}
use Rattle.std.proofs.Common.{Option, Some, None, refl, ap, subst, slice_get}
use Rattle.std.specs.Prelude.{nat_lt}
use Rattle.std.specs.List.{All}
use Rattle.std.proofs.lemmas.Bool.Decides.{nat_tests}
use Rattle.std.proofs.lemmas.List.Elements.{All-head, All-tail}
use Rattle.ub_base.specs.Names.{same_object}
use Rattle.addr_map.specs.declared.map.Row.{Row}
use Rattle.addr_map.specs.Rows.{first_row}
use Rattle.addr_map.specs.Sound.{Above, Apart}
use Rattle.c_model.specs.Nodes.{overlap_inexactly}
use Rattle.c_model.specs.Values.{Value, Whole, address_after}
use Rattle.value_facts.specs.Held.{HoldsOnly}
use Rattle.value_facts.specs.Sources.{AreApart, ArgumentsFit, CanonicalPlaced, IsInRow, IsPlaced, IsSourced, OrdersPlaced, RowsAreApart, StartsPlaced}
use Rattle.value_facts.specs.Sources.{StepsPlaced}
use Rattle.value_facts.proofs.Sources.{placed_kept}
use Rattle.value_facts.proofs.States.{start_kept, step_kept}
use Rattle.value_facts.proofs.Steps.{canonical_keeps, orders_keep}

-- ---- runs
pub starts_placed : StartsPlaced
starts_placed world input vs st keeps bytes arguments q = start_kept world keeps (IsPlaced world) input vs st bytes arguments q

pub steps_placed : StepsPlaced
steps_placed world st after p keeps h q = step_kept world keeps (IsPlaced world) (placed_kept world keeps) st after p h q

pub orders_placed : OrdersPlaced
orders_placed world st after ps keeps = orders_keep world (HoldsOnly (IsPlaced world)) (λ a b p h q. steps_placed world a b p keeps h q) st after ps

pub canonical_placed : CanonicalPlaced
canonical_placed world n st after keeps = canonical_keeps world (HoldsOnly (IsPlaced world)) (λ a b p h q. steps_placed world a b p keeps h q) n st after

-- ---- rows
same_row : (r q : Row) → Some r ≡ Some q → r ≡ q
same_row r q h = cc (h)

-- a row that is found stands above
above_found : (test : Row → Bool) (n : ℕ) (rows : List Row) (r : Row) → Above n rows → first_row test rows ≡ Some r → n ≤ r.base
above_found test n [] r a e = absurd (cc (e))
above_found test n (q ∷ rows) r a e = go (test q) e (above_found test n rows r a.1)
  where
    go : (b : Bool) → (if b then Some q else first_row test rows) ≡ Some r → (first_row test rows ≡ Some r → n ≤ r.base) → n ≤ r.base
    go true e later = subst (λ (z : Row). n ≤ z.base) (same_row q r e) a.0
    go false e later = later e

two_found : (s t : Row → Bool) (rows : List Row) (r q : Row) → Apart rows → first_row s rows ≡ Some r → first_row t rows ≡ Some q → AreApart r q
two_found s t [] r q a e f = absurd (cc (e))
two_found s t (p ∷ rows) r q a e f = go (s p) (t p) e f (two_found s t rows r q a.1)
  where
    first : (z : Row) → p ≡ z → AreApart p z
    first z same = inl (ap (λ (x : Row). x.base) same, ap (λ (x : Row). x.size) same)

    go : (b c : Bool) → (if b then Some p else first_row s rows) ≡ Some r → (if c then Some p else first_row t rows) ≡ Some q
        → (first_row s rows ≡ Some r → first_row t rows ≡ Some q → AreApart r q) → AreApart r q
    go true true e f later =
        subst (λ (z : Row). AreApart z q) (same_row p r e) (first q (same_row p q f))
    go true false e f later =
        subst (λ (z : Row). AreApart z q) (same_row p r e) (inr (inl (above_found t (p.base + p.size) rows q a.0 f)))
    go false true e f later =
        subst (λ (z : Row). AreApart r z) (same_row p q f) (inr (inr (above_found s (p.base + p.size) rows r a.0 e)))
    go false false e f later = later e f

pub rows_are_apart : RowsAreApart
rows_are_apart rows x y r q a e f = two_found (λ z. same_object z.name x) (λ z. same_object z.name y) rows r q a e f

-- ---- arguments
no_overlap : (len a : ℕ) (source : Option ℕ)
    → ((b : ℕ) → source ≡ Some b → (not (a == b) && (nat_lt a (address_after b len) && nat_lt b (address_after a len))) ≡ false)
    → overlap_inexactly len a source ≡ false
no_overlap len a None h = refl
no_overlap len a (Some b) h = h b refl

clash : (a b len : ℕ) → ((a ≡ b) ⊎ ((b + len ≤ a) ⊎ (a + len ≤ b))) → (a == b) ≡ false → nat_lt a (address_after b len) ≡ true
    → nat_lt b (address_after a len) ≡ true → ⊥
clash a b len (inl same) x y z = grind (arith, nat_tests, x, same)
clash a b len (inr (inl l)) x y z = grind (arith, nat_tests, y, l)
clash a b len (inr (inr l)) x y z = grind (arith, nat_tests, z, l)

parted : (a b len : ℕ) → ((a ≡ b) ⊎ ((b + len ≤ a) ⊎ (a + len ≤ b)))
    → (not (a == b) && (nat_lt a (address_after b len) && nat_lt b (address_after a len))) ≡ false
parted a b len h = go (a == b) (nat_lt a (address_after b len)) (nat_lt b (address_after a len)) refl refl refl
  where
    go : (c d e : Bool) → (a == b) ≡ c → nat_lt a (address_after b len) ≡ d → nat_lt b (address_after a len) ≡ e → (not c && (d && e)) ≡ false
    go true d e x y z = refl
    go false false e x y z = refl
    go false true false x y z = refl
    go false true true x y z = absurd (clash a b len h x y z)

at_argument : (V : Value → Type 0) (vs : List Value) (k : ℕ) (v : Value) → All V vs → slice_get vs k ≡ Some v → V v
at_argument V [] k v h e = absurd (cc (e))
at_argument V (w ∷ vs) zero v h e = subst V (let same : w ≡ v = cc (e) in same) (All-head V w vs h)
at_argument V (w ∷ vs) (suc k) v h e = at_argument V vs k v (All-tail V w vs h) e

pub arguments_fit : ArgumentsFit
arguments_fit world st k bs source x r apart h at row l =
    no_overlap (length bs) r.base source (λ b e. parted r.base b (length bs)
    (placed b (subst (λ z. IsSourced world.rows (Whole bs z)) e (at_argument (IsPlaced world) st.top.arguments k (Whole bs source) h.top.arguments at).1)))
  where
    by_rows : (b : ℕ) (q : Row) → q.base ≤ b → b + length bs ≤ q.base + q.size → AreApart r q
        → (r.base ≡ b) ⊎ ((b + length bs ≤ r.base) ⊎ (r.base + length bs ≤ b))
    by_rows b q from to (inl (base, size)) = inl (omega (arith, from, to, base, size, l))
    by_rows b q from to (inr (inl before)) = inr (inr (omega (arith, from, before, l)))
    by_rows b q from to (inr (inr behind)) = inr (inl (omega (arith, to, behind)))

    ordered : (b a n : ℕ) → n ≡ 0 → (a ≡ b) ⊎ ((b + n ≤ a) ⊎ (a + n ≤ b))
    ordered zero a n e = inr (inl (omega (arith, e)))
    ordered (suc b) zero n e = inr (inr (omega (arith, e)))
    ordered (suc b) (suc a) n e =
        elim (ordered b a n e) [
          | inl same ↦ inl (ap suc same)
          | inr (inl m) ↦ inr (inl (omega (arith, m)))
          | inr (inr m) ↦ inr (inr (omega (arith, m)))
        ]

    placed : (b : ℕ) → ((length bs ≡ 0) ⊎ IsInRow world.rows b (length bs)) → (r.base ≡ b) ⊎ ((b + length bs ≤ r.base) ⊎ (r.base + length bs ≤ b))
    placed b (inl none) = ordered b r.base (length bs) none
    placed b (inr (y, q, e, from, to)) = by_rows b q from to (rows_are_apart world.rows x y r q apart row e)
