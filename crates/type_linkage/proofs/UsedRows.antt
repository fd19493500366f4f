-- The rows of objects and functions tell their uses, through declarations.
use Rattle.std.proofs.Common.{◌≡◌, ◌≢◌, ℕ, zero, suc, ◌+◌, ◌<◌, false, List, [], ◌∷◌, ◌++◌, length, refl, sym, ap, ◌∙◌, subst, arith, inl, inr}
use Rattle.std.specs.Prelude.{is_some, get_or, slice_get, slice_set, Option, Some, None}
use Rattle.std.proofs.lemmas.Bool.Decides.{eqb_tells}
use Rattle.std.proofs.lemmas.Option.{none-some, slice_get_read}
use Rattle.c_typed.specs.declared.tree.Target.TheVariants as target
use Rattle.typing_env.specs.Env.{Use}
use Rattle.type_scope.specs.declared.rows.FunctionRow.{FunctionRow}
use Rattle.type_scope.specs.declared.state.State.{State}
use Rattle.type_scope.specs.Known.{Naming}
use Rattle.type_scope.specs.Uses.{is_used, IsUsedFunction, HasUses}

-- 1. What leaves both kinds of rows as they are.

pub names_used : (n : Naming) (s now : State) (us : List Use) → now ≡ record s { names = now.names } → HasUses n s us → HasUses n now us
names_used n s now us e has = subst (λ x. HasUses n x us) (sym e) has

pub linked_used : (n : Naming) (s now : State) (us : List Use) → now ≡ record s { linked = now.linked } → HasUses n s us → HasUses n now us
linked_used n s now us e has = subst (λ x. HasUses n x us) (sym e) has

-- 2. The rows of functions.

same_function : (number : ℕ) (us : List Use) (a b : Option FunctionRow) → a ≡ b → IsUsedFunction (target.Function number) us b
    → IsUsedFunction (target.Function number) us a
same_function number us a b e is = subst (λ row. IsUsedFunction (target.Function number) us row) (sym e) is

-- one function more, of which no use is noted
added_at : (rows : List FunctionRow) (row : FunctionRow) (i : ℕ) (us : List Use) → row.used ≡ None
    → ((k : ℕ) → k ≡ i + length rows → is_used (target.Function k) us ≡ false)
    → ((m : ℕ) (k : ℕ) → k ≡ i + m → IsUsedFunction (target.Function k) us (slice_get rows m))
    → (m : ℕ) (k : ℕ) → k ≡ i + m → IsUsedFunction (target.Function k) us (slice_get (rows ++ row ∷ []) m)
added_at [] row i us none unused has zero k e = ap is_some none ∙ sym (unused k (omega (arith, e)))
added_at [] row i us none unused has (suc m) k e = tt
added_at (r ∷ rows) row i us none unused has zero k e = has zero k e
added_at (r ∷ rows) row i us none unused has (suc m) k e =
    added_at rows row (suc i) us none (λ j f. unused j (omega (arith, f))) (λ j l f. has (suc j) l (omega (arith, f))) m k (omega (arith, e))

pub function_added : (us : List Use) (rows now : List FunctionRow) (row : FunctionRow) → now ≡ rows ++ row ∷ [] → row.used ≡ None
    → is_used (target.Function (length rows)) us ≡ false → ((m : ℕ) → IsUsedFunction (target.Function m) us (slice_get rows m))
    → (m : ℕ) → IsUsedFunction (target.Function m) us (slice_get now m)
function_added us rows now row more none unused has m =
    same_function m us (slice_get now m) (slice_get (rows ++ row ∷ []) m) (ap (λ (xs : List FunctionRow). slice_get xs m) more)
    (added_at rows row 0 us none
    (λ k e.
    let at : k ≡ length rows = omega (arith, e) in
    ap (λ j. is_used (target.Function j) us) at ∙ unused)
    (λ j k e.
    let at : j ≡ k = omega (arith, e) in
    subst (λ l. IsUsedFunction (target.Function l) us (slice_get rows j)) at (has j)) m m (omega arith))

set_other : (rows : List FunctionRow) (number m : ℕ) (row : FunctionRow) → m ≢ number → slice_get (slice_set rows number row) m ≡ slice_get rows m
set_other [] number m row other = refl
set_other (r ∷ rows) zero zero row other = absurd (other refl)
set_other (r ∷ rows) zero (suc m) row other = refl
set_other (r ∷ rows) (suc number) zero row other = refl
set_other (r ∷ rows) (suc number) (suc m) row other = set_other rows number m row (λ e. other (ap suc e))

set_same : (rows : List FunctionRow) (number : ℕ) (was row : FunctionRow) → slice_get rows number ≡ Some was
    → slice_get (slice_set rows number row) number ≡ Some row
set_same [] number was row is = absurd (none-some was is)
set_same (r ∷ rows) zero was row is = refl
set_same (r ∷ rows) (suc number) was row is = set_same rows number was row is

-- a row is another one, of which the same use is noted
pub row_kept : (us : List Use) (number len : ℕ) (rows : List FunctionRow) (was row : FunctionRow) → len ≡ length rows → number < len
    → was ≡ get_or rows number was → row.used ≡ was.used → ((m : ℕ) → IsUsedFunction (target.Function m) us (slice_get rows m))
    → (m : ℕ) → IsUsedFunction (target.Function m) us (slice_get (slice_set rows number row) m)
row_kept us number len rows was row count less is used has m =
    let there = slice_get_read rows len number was count less is in
    elim (eqb_tells m number) [
      | inl p ↦
          subst (λ k. IsUsedFunction (target.Function k) us (slice_get (slice_set rows number row) k)) (sym p.1)
          (same_function number us (slice_get (slice_set rows number row) number) (Some row) (set_same rows number was row there)
          (ap is_some used ∙ subst (λ o. IsUsedFunction (target.Function number) us o) there (has number)))
      | inr p ↦
          same_function m us (slice_get (slice_set rows number row) m) (slice_get rows m) (set_other rows number m row p.1) (has m)
    ]

-- 3. A use of what is named.

pub unused_named : (name at : ℕ) (us : List Use) → name ≡ at → is_used (target.Static at) us ≡ false → is_used (target.Static name) us ≡ false
unused_named name at us is unused = ap (λ k. is_used (target.Static k) us) is ∙ unused
