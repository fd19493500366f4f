-- A row more in a list of rows.
use Rattle.std.proofs.Common.{◌≡◌, ℕ, ◌+◌, ◌≤◌, ◌<◌, Bool, true, false, cond, ◌&&◌, refl, sym, ap, ◌∙◌, subst, arith, List, [], ◌∷◌, Some, None, Option, max}
use Rattle.std.specs.Prelude.{◌==◌, ◌^◌, ◌%◌, nat_lt, nat_le}
use Rattle.std.specs.Ordering.{nat_cmp, is_eq, match_ordering}
use Rattle.std.specs.declared.cmp.Ordering.{Ordering}
use Rattle.std.specs.declared.cmp.Ordering.TheVariants.{Less, Equal, Greater}
use Rattle.std.specs.Cmp.{ranked}
use Rattle.std.specs.Map.{lookup}
use Rattle.std.specs.BTreeMap.{is_at, insert_entry}
use Rattle.std.proofs.lemmas.Bool.Decides.{nat_tests}
use Rattle.ub_base.specs.declared.names.ObjName.{ObjName}
use Rattle.ub_base.specs.declared.names.ObjName.TheVariants.{Static, Lit, Argv, Arg, Auto, Heap}
use Rattle.ub_base.specs.Names.{same_object}
use Rattle.ub_base.proofs.NameLemmas.{same_object_is, same_object_refl}
use Rattle.addr_map.specs.declared.map.Row.{Row}
use Rattle.addr_map.specs.Rows.{first_row, row_of, insert_row, free_of, overlaps, is_lawful, is_power}
use Rattle.addr_map.specs.Sound.{rows_in, Keyed, Above, Apart, EachHeld, object_eq}
use Rattle.addr_map.proofs.Tests.{number_ties, lt_true, lt_false, le_true, none_parts}

-- a look-up by base
pub lookup_is : (es : List (ℕ × Row)) (q : ℕ) → Keyed es → lookup (is_at (nat_cmp q)) es ≡ first_row (λ r. q == r.base) (rows_in es)
lookup_is [] q keyed = refl
lookup_is (e ∷ es) q keyed = rw (number_ties, keyed.0, lookup_is es q keyed.1) refl

tied : (m n : ℕ) → Equal ≡ nat_cmp m n → m ≡ n
tied m n h = ranked m n Equal h

less_is : (m n : ℕ) → Less ≡ nat_cmp m n → nat_lt m n ≡ true
less_is m n h = let lt : m < n = ranked m n Less h in grind (arith, nat_tests)

greater_is : (m n : ℕ) → Greater ≡ nat_cmp m n → nat_lt m n ≡ false
greater_is m n h = let lt : n < m = ranked m n Greater h in grind (arith, nat_tests)

pub keyed-insert : (es : List (ℕ × Row)) (r : Row) → Keyed es → Keyed (insert_entry nat_cmp es r.base r)
keyed-insert [] r keyed = (refl, tt)
keyed-insert (e ∷ es) r keyed =
    elim (nat_cmp r.base e.0) as (λ o. o ≡ nat_cmp r.base e.0 → Keyed
    (match_ordering o ((r.base, r) ∷ e ∷ es) ((e.0, r) ∷ es) (e ∷ insert_entry nat_cmp es r.base r))) [
      | Less ↦ λ h. (refl, keyed)
      | Equal ↦ λ h. (tied r.base e.0 h, keyed.1)
      | Greater ↦ λ h. (keyed.0, keyed-insert es r keyed.1)
    ] refl

choose_rows : (b : Bool) (n : ℕ) (xs ys : List Row) → (b ≡ true → Above n xs) → (b ≡ false → Above n ys) → Above n (cond b xs ys)
choose_rows true n xs ys f g = f refl
choose_rows false n xs ys f g = g refl

pub above-insert : (n : ℕ) (r : Row) (rs : List Row) → n ≤ r.base → Above n rs → Above n (insert_row r rs)
above-insert n r [] le h = (le, tt)
above-insert n r (s ∷ rs) le h =
    choose_rows (nat_lt r.base s.base) n (r ∷ s ∷ rs) (s ∷ insert_row r rs) (λ e. (le, h)) (λ e. (h.0, above-insert n r rs le h.1))

pub above_less : (m n : ℕ) (rs : List Row) → m ≤ n → Above n rs → Above m rs
above_less m n [] le h = tt
above_less m n (r ∷ rs) le h = (omega (arith, h.0), above_less m n rs le h.1)

choose_apart : (b : Bool) (xs ys : List Row) → (b ≡ true → Apart xs) → (b ≡ false → Apart ys) → Apart (cond b xs ys)
choose_apart true xs ys f g = f refl
choose_apart false xs ys f g = g refl

clear_before : (r s : Row) → overlaps s r ≡ false → r.base < s.base → r.base + r.size ≤ s.base
clear_before r s h lt = grind (arith, nat_tests)

clear_after : (r s : Row) → 0 < r.size → overlaps s r ≡ false → s.base ≤ r.base → s.base + s.size ≤ r.base
clear_after r s some h le = grind (arith, nat_tests)

pub apart-insert : (r : Row) (rs : List Row) → 0 < r.size → first_row (λ s. overlaps s r) rs ≡ None → Apart rs → Apart (insert_row r rs)
apart-insert r [] some h apart = (tt, tt)
apart-insert r (s ∷ rs) some h apart =
    let parts : (overlaps s r ≡ false) × (first_row (λ s. overlaps s r) rs ≡ None) = none_parts (overlaps s r) s (first_row (λ s. overlaps s r) rs) h in
    choose_apart (nat_lt r.base s.base) (r ∷ s ∷ rs) (s ∷ insert_row r rs)
    (λ e. let ends : r.base + r.size ≤ s.base = clear_before r s parts.0 (lt_true r.base s.base e) in
    ((ends, above_less (r.base + r.size) (s.base + s.size) rs (omega arith) apart.0), apart))
    (λ e. let ends : s.base + s.size ≤ r.base = clear_after r s some parts.0 (lt_false r.base s.base e) in
    (above-insert (s.base + s.size) r rs ends apart.0, apart-insert r rs some parts.1 apart.1))

choose_free : (b : Bool) (n : ℕ) (xs ys : List Row) → free_of xs ≡ n → free_of ys ≡ n → free_of (cond b xs ys) ≡ n
choose_free true n xs ys f g = f
choose_free false n xs ys f g = g

pub free-insert : (r : Row) (rs : List Row) → free_of (insert_row r rs) ≡ max (r.base + r.size) (free_of rs)
free-insert r [] = refl
free-insert r (s ∷ rs) =
    choose_free (nat_lt r.base s.base) _ (r ∷ s ∷ rs) (s ∷ insert_row r rs) refl (rw (free-insert r rs) (omega arith))

choose_held : (b : Bool) (bases : ObjName → Option ℕ) (xs ys : List Row) → EachHeld bases xs → EachHeld bases ys → EachHeld bases (cond b xs ys)
choose_held true bases xs ys f g = f
choose_held false bases xs ys f g = g

pub held-insert : (bases : ObjName → Option ℕ) (r : Row) (rs : List Row) → bases r.name ≡ Some r.base → is_lawful r ≡ true →
    EachHeld bases rs → EachHeld bases (insert_row r rs)
held-insert bases r [] at lawful h = ((at, lawful), tt)
held-insert bases r (s ∷ rs) at lawful h =
    choose_held (nat_lt r.base s.base) bases (r ∷ s ∷ rs) (s ∷ insert_row r rs) ((at, lawful), h) (h.0, held-insert bases r rs at lawful h.1)

still : (b : Bool) (old new put : Option ℕ) (n : ℕ) → b ≡ false → new ≡ cond b put old → old ≡ Some n → new ≡ Some n
still true old new put n b e h = absurd (cc)
still false old new put n b e h = e ∙ h

differ_from : (x y : ObjName) → x ≡ y → same_object y x ≡ false → ⊥
differ_from x y e f = let t : same_object y x ≡ true = subst (λ (z : ObjName). same_object z x ≡ true) e (same_object_refl x) in cc

swapped_if : (b : Bool) (x y : ObjName) → same_object x y ≡ b → same_object y x ≡ false → b ≡ false
swapped_if true x y h f = absurd (differ_from x y (same_object_is x y h) f)
swapped_if false x y h f = refl

swapped : (x y : ObjName) → same_object y x ≡ false → same_object x y ≡ false
swapped x y h = swapped_if (same_object x y) x y refl h

-- the two equalities of names
pub eq_object : (x y : ObjName) → object_eq x y ≡ same_object x y
eq_object (Static k) (Static l) = refl
eq_object (Lit k) (Lit l) = refl
eq_object Argv Argv = refl
eq_object (Arg k) (Arg l) = refl
eq_object (Auto f t k) (Auto g u l) = refl
eq_object (Heap f t k) (Heap g u l) = refl
eq_object _ _ = refl

-- another name's base leaves the rows found by theirs
pub held-update : (old new : ObjName → Option ℕ) (x : ObjName) (n : ℕ) (rs : List Row) →
    ((y : ObjName) → new y ≡ cond (object_eq x y) (Some n) (old y)) → row_of rs x ≡ None → EachHeld old rs →
    EachHeld new rs
held-update old new x n [] update none h = tt
held-update old new x n (r ∷ rs) update none h =
    let parts : (same_object r.name x ≡ false) × (row_of rs x ≡ None) = none_parts (same_object r.name x) r (row_of rs x) none in
    let apart : object_eq x r.name ≡ false = eq_object x r.name ∙ swapped x r.name parts.0 in
    ((still _ _ _ (Some n) r.base apart (update r.name) h.0.0, h.0.1), held-update old new x n rs update parts.1 h.1)

-- the rows of a map with one more
entry_rows : (o : Ordering) (e : ℕ × Row) (es : List (ℕ × Row)) (r : Row) (more : List (ℕ × Row)) → o ≡ nat_cmp r.base e.0 → e.1.base ≡ e.0 →
    (o ≡ Equal → ⊥) → rows_in more ≡ insert_row r (rows_in es) → rows_in (match_ordering o ((r.base, r) ∷ e ∷ es) ((e.0, r) ∷ es) (e ∷ more)) ≡ insert_row r
    (rows_in (e ∷ es))
entry_rows Less e es r more h keyed other rest = rw (keyed, less_is r.base e.0 h) refl
entry_rows Equal e es r more h keyed other rest = absurd (other refl)
entry_rows Greater e es r more h keyed other rest = rw (keyed, greater_is r.base e.0 h, rest) refl

not_tied : (m n : ℕ) (o : Ordering) → o ≡ nat_cmp m n → is_eq (nat_cmp m n) ≡ false → o ≡ Equal → ⊥
not_tied m n o h f e = let t : is_eq (nat_cmp m n) ≡ true = ap is_eq (sym h ∙ e) in cc

pub rows_in-insert : (es : List (ℕ × Row)) (r : Row) → Keyed es → lookup (is_at (nat_cmp r.base)) es ≡ None →
    rows_in (insert_entry nat_cmp es r.base r) ≡ insert_row r (rows_in es)
rows_in-insert [] r keyed none = refl
rows_in-insert (e ∷ es) r keyed none =
    let parts : (is_eq (nat_cmp r.base e.0) ≡ false) × (lookup (is_at (nat_cmp r.base)) es ≡ None) =
    none_parts (is_eq (nat_cmp r.base e.0)) e.1 (lookup (is_at (nat_cmp r.base)) es) none in
    entry_rows (nat_cmp r.base e.0) e es r (insert_entry nat_cmp es r.base r) refl keyed.0 (not_tied r.base e.0 (nat_cmp r.base e.0) refl parts.0)
    (rows_in-insert es r keyed.1 parts.1)

and_left : (a b : Bool) → (a && b) ≡ true → a ≡ true
and_left true b h = refl
and_left false b h = absurd (cc)

pub size_of_lawful : (r : Row) → is_lawful r ≡ true → 0 < r.size
size_of_lawful r h = lt_true 0 r.size (and_left _ _ h)

and_right : (a b : Bool) → (a && b) ≡ true → b ≡ true
and_right true b h = h
and_right false b h = absurd (cc)

pub end_of_lawful : (r : Row) → is_lawful r ≡ true → r.base + r.size ≤ 2 ^ 47
end_of_lawful r h =
    let a = and_right (nat_lt 0 r.size) _ h in
    let b = and_right (is_power r.align) _ a in
    let d = and_right (r.base % r.align == 0) _ b in
    le_true _ _ (and_right (nat_le 16777216 r.base) _ d)

begins_elsewhere : (r s : Row) → 0 < r.size → 0 < s.size → overlaps s r ≡ false → (r.base == s.base) ≡ false
begins_elsewhere r s some others h = grind (arith, nat_tests)

-- no row that leaves the new one its place begins where it begins
pub absent : (r : Row) (rs : List Row) → 0 < r.size → first_row (λ s. overlaps s r) rs ≡ None → (bases : ObjName → Option ℕ) → EachHeld bases rs →
    first_row (λ s. r.base == s.base) rs ≡ None
absent r [] some none bases held = refl
absent r (s ∷ rs) some none bases held =
    let parts : (overlaps s r ≡ false) × (first_row (λ s. overlaps s r) rs ≡ None) = none_parts (overlaps s r) s (first_row (λ s. overlaps s r) rs) none in
    rw (begins_elsewhere r s some (size_of_lawful s held.0.1) parts.0) (absent r rs some parts.1 bases held.1)

behind_all : (r s : Row) → s.base + s.size ≤ r.base → overlaps s r ≡ false
behind_all r s le = grind (arith, nat_tests)

-- an object behind all others overlaps none
pub behind : (r : Row) (rs : List Row) → free_of rs ≤ r.base → first_row (λ s. overlaps s r) rs ≡ None
behind r [] le = refl
behind r (s ∷ rs) le = rw (behind_all r s (omega arith)) (behind r rs (omega arith))

pub free_floor : (rs : List Row) → 16777216 ≤ free_of rs
free_floor [] = omega arith
free_floor (r ∷ rs) = omega (arith, free_floor rs)
