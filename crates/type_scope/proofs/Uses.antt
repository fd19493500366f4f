-- Uses, from one to the next, and the rows that tell them.
use Rattle.std.proofs.Common.{◌≡◌, ◌≢◌, ℕ, zero, suc, ◌<◌, ◌≤◌, Bool, true, false, List, [], ◌∷◌, ◌++◌, length, map, refl, sym, ap, ◌∙◌, subst, inl, inr, arith}
use Rattle.std.specs.List.{All}
use Rattle.std.specs.Prelude.{◌==◌, not, ◌&&◌, ◌||◌, get_or, slice_get, slice_set, is_some, Option, Some, None, Result, Ok, Err, IfOk, OnOk}
use Rattle.std.proofs.lemmas.Bool.{eq-eqb, eqb-true, false_from_ne_true}
use Rattle.std.proofs.lemmas.Bool.Decides.{eqb_tells, leb_tells}
use Rattle.std.proofs.lemmas.List.Elements.{All-push}
use Rattle.std.proofs.lemmas.Option.{none-some, same_Some, slice_get_read, slice_get_past}
use Rattle.c_typed.specs.declared.tree.Target.{Target}
use Rattle.c_typed.specs.declared.tree.Target.TheVariants as target
use Rattle.typing_env.specs.Env.{Env, Object, Use}
use Rattle.typing_env.specs.Names.{is_target, object_named}
use Rattle.type_scope.specs.declared.rows.CountedUse.{CountedUse}
use Rattle.type_scope.specs.declared.rows.FunctionRow.{FunctionRow}
use Rattle.type_scope.specs.declared.rows.ObjectRow.{ObjectRow}
use Rattle.type_scope.specs.declared.state.State.{State}
use Rattle.type_scope.specs.Known.{Naming, routine_seen}
use Rattle.type_scope.specs.Objects.{IsOneToOne, IsRow, IsRowOf, HasPlaces, HasObjects, row_in}
use Rattle.type_scope.specs.Uses.{is_used, has_count, fits_uses, fits_noted, IsUsedObject, IsUsedFunction, IsUnused, HasUses, function_row_in, with_use}

-- 1. One use more.

or_later : (a b c : Bool) → (a || (b || c)) ≡ ((a || b) || c)
or_later true b c = refl
or_later false b c = refl

or_nothing : (a : Bool) → (a || false) ≡ a
or_nothing true = refl
or_nothing false = refl

or_this : (a : Bool) → (a || true) ≡ true
or_this true = refl
or_this false = refl

and_later : (a b c : Bool) → (a && (b && c)) ≡ ((a && b) && c)
and_later true b c = refl
and_later false b c = refl

and_nothing : (a : Bool) → (a && true) ≡ a
and_nothing true = refl
and_nothing false = refl

pub used_more : (t : Target) (u : Use) (us : List Use) → is_used t (us ++ u ∷ []) ≡ (is_used t us || is_target u.target t)
used_more t u [] = or_nothing (is_target u.target t)
used_more t u (v ∷ us) = ap (λ b. is_target v.target t || b) (used_more t u us) ∙ or_later (is_target v.target t) (is_used t us) (is_target u.target t)

pub fits_more : (t : Target) (count : Option ℕ) (u : Use) (us : List Use)
    → fits_uses t count (us ++ u ∷ []) ≡ (fits_uses t count us && (not (is_target u.target t) || has_count u.count count))
fits_more t count u [] = and_nothing (not (is_target u.target t) || has_count u.count count)
fits_more t count u (v ∷ us) =
    ap (λ b. (not (is_target v.target t) || has_count v.count count) && b) (fits_more t count u us)
    ∙ and_later (not (is_target v.target t) || has_count v.count count) (fits_uses t count us) (not (is_target u.target t) || has_count u.count count)

-- a use of something else
pub other_used : (t : Target) (u : Use) (us : List Use) → is_target u.target t ≡ false → is_used t (us ++ u ∷ []) ≡ is_used t us
other_used t u us e = used_more t u us ∙ ap (λ b. is_used t us || b) e ∙ or_nothing (is_used t us)

pub other_fits : (t : Target) (count : Option ℕ) (u : Use) (us : List Use) → is_target u.target t ≡ false
    → fits_uses t count (us ++ u ∷ []) ≡ fits_uses t count us
other_fits t count u us e =
    fits_more t count u us ∙ ap (λ b. fits_uses t count us && (not b || has_count u.count count)) e ∙ and_nothing (fits_uses t count us)

-- a use of this
pub this_used : (t : Target) (u : Use) (us : List Use) → is_target u.target t ≡ true → is_used t (us ++ u ∷ []) ≡ true
this_used t u us e = used_more t u us ∙ ap (λ b. is_used t us || b) e ∙ or_this (is_used t us)

pub this_fits : (t : Target) (count : Option ℕ) (u : Use) (us : List Use) → is_target u.target t ≡ true
    → fits_uses t count (us ++ u ∷ []) ≡ (fits_uses t count us && has_count u.count count)
this_fits t count u us e = fits_more t count u us ∙ ap (λ b. fits_uses t count us && (not b || has_count u.count count)) e

-- what isn't used fits
unused_step : (a b : Bool) → (a || b) ≡ false → (a ≡ false) × (b ≡ false)
unused_step true b e = (e, absurd (cc))
unused_step false b e = (refl, e)

pub unused_fits : (t : Target) (count : Option ℕ) (us : List Use) → is_used t us ≡ false → fits_uses t count us ≡ true
unused_fits t count [] e = refl
unused_fits t count (u ∷ us) e =
    let p = unused_step (is_target u.target t) (is_used t us) e in
    ap (λ b. (not b || has_count u.count count) && fits_uses t count us) p.0 ∙ unused_fits t count us p.1

-- 2. What a target is.

pub is_itself : (t : Target) → is_target t t ≡ true
is_itself (target.Static m) = eq-eqb m m refl
is_itself (target.Function m) = eq-eqb m m refl
is_itself (target.Literal m) = eq-eqb m m refl

pub is_other : (m number : ℕ) → m ≢ number → (number == m) ≡ false
is_other m number differ = false_from_ne_true (number == m) (λ e. differ (sym (eqb-true number m e)))

-- 3. Rows.

pub object_other : (t : Target) (u : Use) (us : List Use) (row : Option ObjectRow) → is_target u.target t ≡ false → IsUsedObject t us row
    → IsUsedObject t (us ++ u ∷ []) row
object_other t u us None e is = tt
object_other t u us (Some row) e is = (is.0 ∙ sym (other_used t u us e), λ count. is.1 count ∙ sym (other_fits t count u us e))

pub function_other : (t : Target) (u : Use) (us : List Use) (row : Option FunctionRow) → is_target u.target t ≡ false → IsUsedFunction t us row
    → IsUsedFunction t (us ++ u ∷ []) row
function_other t u us None e is = tt
function_other t u us (Some row) e is = is ∙ sym (other_used t u us e)

-- the row of an object that is used
pub object_used : (t : Target) (us : List Use) (count : Option ℕ) (was now : ObjectRow) → is_some now.used ≡ true
    → ((n : Option ℕ) → fits_noted now.counted n ≡ (fits_noted was.counted n && has_count count n)) → IsUsedObject t us (Some was)
    → IsUsedObject t (us ++ record { target = t; count = count } ∷ []) (Some now)
object_used t us count was now used fits is =
    let u : Use = record { target = t; count = count } in (
      used ∙ sym (this_used t u us (is_itself t)),
      λ n. fits n ∙ ap (λ b. b && has_count count n) (is.1 n) ∙ sym (this_fits t n u us (is_itself t)),
    )

pub function_used : (t : Target) (us : List Use) (now : FunctionRow) → is_some now.used ≡ true
    → IsUsedFunction t (us ++ record { target = t; count = None } ∷ []) (Some now)
function_used t us now used = used ∙ sym (this_used t (record { target = t; count = None }) us (is_itself t))

-- one of which no use is noted
pub object_unused : (t : Target) (us : List Use) (row : ObjectRow) → IsUnused row → is_used t us ≡ false → IsUsedObject t us (Some row)
object_unused t us row none e = (ap is_some none.0 ∙ sym e, λ count. ap (λ c. fits_noted c count) none.1 ∙ sym (unused_fits t count us e))

-- 4. All rows.

by_number : (P : ℕ → Type 0) (number : ℕ) → P number → ((m : ℕ) → m ≢ number → P m) → (m : ℕ) → P m
by_number P number here others m = elim (eqb_tells m number) [ inl p ↦ subst P (sym p.1) here | inr p ↦ others m p.1 ]

pub noted : (n : Naming) (s : State) (us : List Use) (u : Use) (unevaluated : Bool) → unevaluated ≡ false → HasUses n s (us ++ u ∷ [])
    → HasUses n s (with_use unevaluated u us)
noted n s us u unevaluated e has = subst (λ b. HasUses n s (with_use b u us)) (sym e) has

same_object : (t : Target) (us : List Use) (a b : Option ObjectRow) → a ≡ b → IsUsedObject t us b → IsUsedObject t us a
same_object t us a b e is = subst (λ row. IsUsedObject t us row) (sym e) is

same_function : (t : Target) (us : List Use) (a b : Option FunctionRow) → a ≡ b → IsUsedFunction t us b → IsUsedFunction t us a
same_function t us a b e is = subst (λ row. IsUsedFunction t us row) (sym e) is

-- the row of an object is another one, that tells the same uses
pub objects_kept : (n : Naming) (s now : State) (us : List Use) (number : ℕ) → now.functions ≡ s.functions
    → IsUsedObject (target.Static (n number)) us (row_in now number) → ((m : ℕ) → m ≢ number → row_in now m ≡ row_in s m) → HasUses n s us → HasUses n now us
objects_kept n s now us number same here others has = (
  by_number (λ m. IsUsedObject (target.Static (n m)) us (row_in now m)) number here
      (λ m differ. same_object (target.Static (n m)) us (row_in now m) (row_in s m) (others m differ) (has.0 m)),
  λ m. same_function (target.Function m) us (function_row_in now m) (function_row_in s m) (ap (λ fs. slice_get fs.items m) same) (has.1 m),
)

-- an object is used
pub objects_used : (n : Naming) → IsOneToOne n → (s now : State) (us : List Use) (number : ℕ) (count : Option ℕ) → now.functions ≡ s.functions
    → ((t : Target) (vs : List Use) → IsUsedObject t vs (row_in s number) →
    IsUsedObject t (vs ++ record { target = t; count = count } ∷ []) (row_in now number))
    → ((m : ℕ) → m ≢ number → row_in now m ≡ row_in s m) → HasUses n s us
    → HasUses n now (us ++ record { target = target.Static (n number); count = count } ∷ [])
objects_used n one s now us number count same used others has =
    let u : Use = record { target = target.Static (n number); count = count } in (
      by_number (λ m. IsUsedObject (target.Static (n m)) (us ++ u ∷ []) (row_in now m)) number (used (target.Static (n number)) us (has.0 number))
          (λ m differ.
          same_object (target.Static (n m)) (us ++ u ∷ []) (row_in now m) (row_in s m) (others m differ)
          (object_other (target.Static (n m)) u us (row_in s m) (is_other (n m) (n number) (λ e. differ (one m number e))) (has.0 m))),
      λ m.
          same_function (target.Function m) (us ++ u ∷ []) (function_row_in now m) (function_row_in s m) (ap (λ fs. slice_get fs.items m) same)
          (function_other (target.Function m) u us (function_row_in s m) refl (has.1 m)),
    )

-- a function is used
pub functions_used : (n : Naming) (s now : State) (us : List Use) (number : ℕ) → now.objects ≡ s.objects
    → ((t : Target) (vs : List Use) → IsUsedFunction t vs (function_row_in s number)
    → IsUsedFunction t (vs ++ record { target = t; count = None } ∷ []) (function_row_in now number))
    → ((m : ℕ) → m ≢ number → function_row_in now m ≡ function_row_in s m) → HasUses n s us
    → HasUses n now (us ++ record { target = target.Function number; count = None } ∷ [])
functions_used n s now us number same used others has =
    let u : Use = record { target = target.Function number; count = None } in (
      λ m.
          same_object (target.Static (n m)) (us ++ u ∷ []) (row_in now m) (row_in s m) (ap (λ os. slice_get os.items m) same)
          (object_other (target.Static (n m)) u us (row_in s m) refl (has.0 m)),
      by_number (λ m. IsUsedFunction (target.Function m) (us ++ u ∷ []) (function_row_in now m)) number (used (target.Function number) us (has.1 number))
          (λ m differ.
          same_function (target.Function m) (us ++ u ∷ []) (function_row_in now m) (function_row_in s m) (others m differ)
          (function_other (target.Function m) u us (function_row_in s m) (is_other m number differ) (has.1 m))),
    )

-- an object more
pub object_added : {E : Type 0} (r : Result ℕ E) (s now : State) (row : ObjectRow) → now.functions ≡ s.functions
    → IfOk r (λ number. HasPlaces s → row_in now number ≡ Some row) → IfOk r (λ number. (m : ℕ) → m ≢ number → row_in now m ≡ row_in s m)
    → IfOk r (λ number. (n : Naming) (us : List Use) → HasPlaces s → IsUnused row → is_used (target.Static (n number)) us ≡ false
    → HasUses n s us → HasUses n now us)
object_added (Ok number) s now row same there others =
    λ n us places unused not_used has.
    objects_kept n s now us number same
    (same_object (target.Static (n number)) us (row_in now number) (Some row) (there places) (object_unused (target.Static (n number)) us row unused not_used))
    others has
object_added (Err e) s now row same there others = tt

-- 5. Rows that are as they were, but for uses.

row_by : (o : Option Object) (r q : Option ObjectRow) → ((p : Object) → IsRowOf p r → IsRowOf p q) → IsRow o r → IsRow o q
row_by None r q same is = tt
row_by (Some p) r q same is = same p is

pub rows_kept : (n : Naming) (s now : State) (env : Env) (number : ℕ) → (HasPlaces s → HasPlaces now)
    → ((o : Object) → IsRowOf o (row_in s number) → IsRowOf o (row_in now number)) → ((m : ℕ) → m ≢ number → row_in now m ≡ row_in s m)
    → HasObjects n s env → HasObjects n now env
rows_kept n s now env number places same others has = (
  places has.0,
  by_number (λ m. IsRow (object_named (n m) env.objects) (row_in now m)) number
      (row_by (object_named (n number) env.objects) (row_in s number) (row_in now number) same (has.1 number))
      (λ m differ. subst (λ r. IsRow (object_named (n m) env.objects) r) (sym (others m differ)) (has.1 m)),
)

-- a function's row
same_set : (number : ℕ) (rows : List FunctionRow) (row now : FunctionRow) → slice_get rows number ≡ Some row → routine_seen now ≡ routine_seen row
    → map routine_seen (slice_set rows number now) ≡ map routine_seen rows
same_set number [] row now is e = absurd (none-some row is)
same_set zero (r ∷ rows) row now is e = ap (λ x. x ∷ map routine_seen rows) (e ∙ ap routine_seen (sym (same_Some r row is)))
same_set (suc n) (r ∷ rows) row now is e = ap (λ xs. routine_seen r ∷ xs) (same_set n rows row now is e)

pub same_routines : (number len : ℕ) (rows : List FunctionRow) (row now : FunctionRow) → len ≡ length rows → number < len → row ≡ get_or rows number row
    → routine_seen now ≡ routine_seen row → map routine_seen (slice_set rows number now) ≡ map routine_seen rows
same_routines number len rows row now count less is e = same_set number rows row now (slice_get_read rows len number row count less is) e

-- no use is noted in any row
pub rows_unused : (t : Target) (rows : List ObjectRow) (m : ℕ) → All IsUnused rows → IsUsedObject t [] (slice_get rows m)
rows_unused t [] m all = tt
rows_unused t (r ∷ rows) zero all = object_unused t [] r (all zero r (omega arith)) refl
rows_unused t (r ∷ rows) (suc m) all = rows_unused t rows m (λ k d less. all (suc k) d (omega arith))

set_get : (rows : List FunctionRow) (number : ℕ) (now : FunctionRow) → number < length rows → slice_get (slice_set rows number now) number ≡ Some now
set_get [] number now less = absurd (omega arith)
set_get (r ∷ rows) zero now less = refl
set_get (r ∷ rows) (suc n) now less = set_get rows n now (omega arith)

-- the row of a function that is used, among the others
pub routine_used : (t : Target) (us : List Use) (number len : ℕ) (rows : List FunctionRow) (now : FunctionRow) → len ≡ length rows → number < len
    → is_some now.used ≡ true → IsUsedFunction t (us ++ record { target = t; count = None } ∷ []) (slice_get (slice_set rows number now) number)
routine_used t us number len rows now count less used =
    same_function t (us ++ record { target = t; count = None } ∷ []) (slice_get (slice_set rows number now) number) (Some now)
    (set_get rows number now (omega (arith, count, less))) (function_used t us now used)

-- .. or there is none
pub routine_none : (t : Target) (us : List Use) (number len : ℕ) (rows : List FunctionRow) → len ≡ length rows → len ≤ number
    → IsUsedFunction t us (slice_get rows number)
routine_none t us number len rows count out =
    same_function t us (slice_get rows number) None (slice_get_past rows number (omega (arith, count, out))) tt

pub not_less : (a b : ℕ) → (a < b → ⊥) → b ≤ a
not_less a b never = elim (leb_tells b a) [ inl p ↦ p.1 | inr p ↦ absurd (never p.1) ]

-- the uses of an object by an identifier of this type
pub counted_as : (n : Naming) (s : State) (us : List Use) (t : Target) (a b : Option ℕ) → a ≡ b
    → HasUses n s (us ++ record { target = t; count = a } ∷ []) → HasUses n s (us ++ record { target = t; count = b } ∷ [])
counted_as n s us t a b e has = subst (λ count. HasUses n s (us ++ record { target = t; count = count } ∷ [])) e has

pub unused_more : (rows : List ObjectRow) (row : ObjectRow) → All IsUnused rows → IsUnused row → All IsUnused (rows ++ row ∷ [])
unused_more rows row all is = All-push IsUnused rows row all is

pub no_function : (t : Target) (rows : List FunctionRow) (m : ℕ) → rows ≡ [] → IsUsedFunction t [] (slice_get rows m)
no_function t rows m none = same_function t [] (slice_get rows m) None (ap (λ (xs : List FunctionRow). slice_get xs m) none) tt

pub in_any_case : {A E : Type 0} (r : Result A E) (P : Type 0) → P → OnOk r P
in_any_case (Ok a) P p = p
in_any_case (Err e) P p = tt
