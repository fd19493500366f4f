-- The rows of functions.
use Rattle.std.proofs.Common.{◌≡◌, ℕ, zero, suc, ◌+◌, ◌<◌, ◌≤◌, false, List, [], ◌∷◌, ◌++◌, length, map, refl, sym, ap, ◌∙◌, subst, inl, inr, arith}
use Rattle.std.specs.Prelude.{◌==◌, if◌then◌else◌, get_or, slice_get, slice_set, Option, Some, Result, Ok, Err, IfOk}
use Rattle.std.specs.Option.{option_map}
use Rattle.std.proofs.lemmas.Bool.{eq-eqb, false_from_ne_true, eqb-true}
use Rattle.std.proofs.lemmas.List.{map-append}
use Rattle.std.proofs.lemmas.Option.{same_Some, none-some, slice_get_read, slice_get_cases}
use Rattle.c_types.specs.Types.{CType, Signature, signature_of, composite, composite_signature}
use Rattle.c_types.specs.declared.ty.FuncTy.{FuncTy}
use Rattle.typing_env.specs.Env.{Routine}
use Rattle.typing_env.specs.Names.{changed_function, further_type, type_of_signature}
use Rattle.type_scope.specs.declared.rows.Definition.{Definition}
use Rattle.type_scope.specs.declared.rows.Definition.TheVariants as definition
use Rattle.type_scope.specs.declared.rows.FunctionRow.{FunctionRow}
use Rattle.type_scope.specs.Known.{routine_by, routine_seen}
use Rattle.type_linkage.specs.Linkage.{signature_in}

-- 1. One row.

-- the composite of two function types, as a type
pub joined_signature : (f g : Signature) (a b j : CType) (o : Option FuncTy) → a ≡ type_of_signature f → b ≡ type_of_signature g → j ≡ composite a b
    → option_map signature_of o ≡ signature_in j → option_map signature_of o ≡ Some (composite_signature f g)
joined_signature f g a b j o p q e is =
    is ∙ ap signature_in (e ∙ ap (λ x. composite x b) p ∙ ap (composite (type_of_signature f)) q)

-- one declaration more
pub further_is : (ty joined : FuncTy) (f : Signature) (d : Definition) → signature_of joined ≡ composite_signature (signature_of ty) f
    → routine_by joined d ≡ further_type f (routine_by ty d)
further_is ty joined f (definition.Own own body) e = refl
further_is ty joined f (definition.Library library) e = λ i. record (routine_by ty (definition.Library library)) { signature = e i }
further_is ty joined f definition.Nowhere e = λ i. record (routine_by ty definition.Nowhere) { signature = e i }

pub if_weaker : {T E : Type 0} (r : Result T E) (P Q : T → Type 0) → ((a : T) → P a → Q a) → IfOk r P → IfOk r Q
if_weaker (Ok a) P Q f p = f a p
if_weaker (Err e) P Q f p = tt

-- 2. A row among others.

other_than : (a b : ℕ) → a < b → (b == a) ≡ false
other_than a b less = false_from_ne_true (b == a) (λ e. (let same = eqb-true b a e in absurd (omega arith)))

below : (a b : ℕ) → a < b → (a == b) ≡ false
below a b less = false_from_ne_true (a == b) (λ e. (let same = eqb-true a b e in absurd (omega arith)))

behind : (number n : ℕ) (f : Routine → Routine) (rs : List Routine) → number < n → changed_function number f n rs ≡ rs
behind number n f [] less = refl
behind number n f (r ∷ rs) less =
    ap (λ t. (if t then f r else r) ∷ changed_function number f (n + 1) rs) (other_than number n less)
    ∙ ap (λ xs. r ∷ xs) (behind number (n + 1) f rs (omega arith))

changed_from : (f : Routine → Routine) (number n m : ℕ) (rows : List FunctionRow) (row now : FunctionRow) → m ≡ n + number
    → slice_get rows number ≡ Some row → routine_seen now ≡ f (routine_seen row)
    → map routine_seen (slice_set rows number now) ≡ changed_function m f n (map routine_seen rows)
changed_from f number n m [] row now at is e = absurd (none-some row is)
changed_from f zero n m (r ∷ rows) row now at is e =
    let here : n ≡ m = omega arith in
    ap (λ x. x ∷ map routine_seen rows) (e ∙ ap (λ y. f (routine_seen y)) (sym (same_Some r row is)))
    ∙ ap (λ xs. f (routine_seen r) ∷ xs) (sym (behind m (n + 1) f (map routine_seen rows) (omega arith)))
    ∙ sym (ap (λ t. (if t then f (routine_seen r) else routine_seen r) ∷ changed_function m f (n + 1) (map routine_seen rows)) (eq-eqb n m here))
changed_from f (suc number) n m (r ∷ rows) row now at is e =
    let next : m ≡ (n + 1) + number = omega arith in
    ap (λ xs. routine_seen r ∷ xs) (changed_from f number (n + 1) m rows row now next is e)
    ∙ sym (ap (λ t. (if t then f (routine_seen r) else routine_seen r) ∷ changed_function m f (n + 1) (map routine_seen rows)) (below n m (omega arith)))

pub changed_row : (f : Routine → Routine) (number len : ℕ) (rows : List FunctionRow) (row now : FunctionRow) → len ≡ length rows → number < len
    → row ≡ get_or rows number row → routine_seen now ≡ f (routine_seen row)
    → map routine_seen (slice_set rows number now) ≡ changed_function number f 0 (map routine_seen rows)
changed_row f number len rows row now count less is e =
    let at : number ≡ 0 + number = omega arith in
    changed_from f number 0 number rows row now at (slice_get_read rows len number row count less is) e

none_from : (f : Routine → Routine) (number n : ℕ) (rows : List FunctionRow) → n + length rows ≤ number
    → map routine_seen rows ≡ changed_function number f n (map routine_seen rows)
none_from f number n [] more = refl
none_from f number n (r ∷ rows) more =
    ap (λ xs. routine_seen r ∷ xs) (none_from f number (n + 1) rows (omega arith))
    ∙ sym (ap (λ t. (if t then f (routine_seen r) else routine_seen r) ∷ changed_function number f (n + 1) (map routine_seen rows))
    (below n number (omega arith)))

past : (rows : List FunctionRow) (number : ℕ) → (number < length rows → ⊥) → length rows ≤ number
past rows number fits = elim (slice_get_cases rows number).1 as (λ _. length rows ≤ number) [ inl p ↦ absurd (fits p.1) | inr q ↦ q.0 ]

-- where there is no such row
pub changed_none : (f : Routine → Routine) (number len : ℕ) (rows : List FunctionRow) → len ≡ length rows → (number < len → ⊥)
    → map routine_seen rows ≡ changed_function number f 0 (map routine_seen rows)
changed_none f number len rows count fits =
    let more : 0 + length rows ≤ number = omega (arith, past rows number (λ less. fits (subst (λ m. number < m) (sym count) less))) in
    none_from f number 0 rows more

-- one more
pub added_row : (row : FunctionRow) (r : Routine) (rows now : List FunctionRow) → now ≡ rows ++ row ∷ [] → routine_seen row ≡ r
    → map routine_seen now ≡ map routine_seen rows ++ r ∷ []
added_row row r rows now e is =
    ap (map routine_seen) e ∙ map-append routine_seen rows (row ∷ []) ∙ ap (λ x. map routine_seen rows ++ x ∷ []) is
