-- Objects by name, and their rows by number.
use Rattle.std.proofs.Common.{◌≡◌, ◌≢◌, ℕ, Bool, true, false, List, [], ◌∷◌, ◌++◌, refl, sym, ap, ◌∙◌, subst}
use Rattle.std.specs.Prelude.{◌==◌, if◌then◌else◌, Option, Some, None, Result, Ok, Err, IfOk, OnOk}
use Rattle.std.specs.Option.{option_map}
use Rattle.std.proofs.lemmas.Option.{none-some}
use Rattle.std.proofs.lemmas.Bool.{eq-eqb, eqb-true, eqb-false, false_from_ne_true}
use Rattle.typing_env.specs.Env.{Env, Object}
use Rattle.typing_env.specs.Names.{object_named, changed_object, changing_object, with_object}
use Rattle.type_scope.specs.declared.rows.ObjectRow.{ObjectRow}
use Rattle.type_scope.specs.declared.state.State.{State}
use Rattle.type_scope.specs.Known.{Naming}
use Rattle.type_scope.specs.Objects.{IsOneToOne, IsRow, IsRowOf, HasPlaces, HasObjects, row_in}

-- 1. By name.

-- the object of that name is changed
changed_step : (f : Object → Object) (name : ℕ) (o : Object) (x y : Option Object) (t : Bool) → (o.name == name) ≡ t → (f o).name ≡ o.name
    → x ≡ option_map f y
    → (if (if o.name == name then f o else o).name == name then Some (if o.name == name then f o else o) else x)
    ≡ option_map f (if o.name == name then Some o else y)
changed_step f name o x y true e kept is =
    ap (λ b. if (if b then f o else o).name == name then Some (if b then f o else o) else x) e
    ∙ ap (λ b. if b then Some (f o) else x) (ap (λ a. a == name) kept ∙ e)
    ∙ sym (ap (λ b. option_map f (if b then Some o else y)) e)
changed_step f name o x y false e kept is =
    ap (λ b. if (if b then f o else o).name == name then Some (if b then f o else o) else x) e
    ∙ ap (λ b. if b then Some o else x) e
    ∙ is
    ∙ sym (ap (λ b. option_map f (if b then Some o else y)) e)

pub changed_named : (f : Object → Object) → ((o : Object) → (f o).name ≡ o.name) → (name : ℕ) (os : List Object)
    → object_named name (changed_object name f os) ≡ option_map f (object_named name os)
changed_named f kept name [] = refl
changed_named f kept name (o ∷ os) =
    changed_step f name o (object_named name (changed_object name f os)) (object_named name os) (o.name == name) refl (kept o)
    (changed_named f kept name os)

-- those of other names aren't
other_step : (f : Object → Object) (name other : ℕ) (o : Object) (x y : Option Object) (t : Bool) → (o.name == name) ≡ t → (f o).name ≡ o.name
    → other ≢ name → x ≡ y
    → (if (if o.name == name then f o else o).name == other then Some (if o.name == name then f o else o) else x)
    ≡ (if o.name == other then Some o else y)
other_step f name other o x y true e kept differ is =
    let here : (o.name == other) ≡ false = false_from_ne_true (o.name == other) (λ s. differ (sym (eqb-true o.name other s) ∙ eqb-true o.name name e)) in
    ap (λ b. if (if b then f o else o).name == other then Some (if b then f o else o) else x) e
    ∙ ap (λ b. if b then Some (f o) else x) (ap (λ a. a == other) kept ∙ here)
    ∙ is
    ∙ sym (ap (λ b. if b then Some o else y) here)
other_step f name other o x y false e kept differ is =
    ap (λ b. if (if b then f o else o).name == other then Some (if b then f o else o) else x) e
    ∙ ap (λ z. if o.name == other then Some o else z) is

pub other_named : (f : Object → Object) → ((o : Object) → (f o).name ≡ o.name) → (name other : ℕ) → other ≢ name → (os : List Object)
    → object_named other (changed_object name f os) ≡ object_named other os
other_named f kept name other differ [] = refl
other_named f kept name other differ (o ∷ os) =
    other_step f name other o (object_named other (changed_object name f os)) (object_named other os) (o.name == name) refl (kept o) differ
    (other_named f kept name other differ os)

-- one object more
added_step : (name : ℕ) (o p : Object) (os : List Object) (t : Bool) → (p.name == name) ≡ t
    → (if p.name == name then Some p else object_named name os) ≡ None → (object_named name os ≡ None → object_named name (os ++ o ∷ []) ≡ Some o)
    → (if p.name == name then Some p else object_named name (os ++ o ∷ [])) ≡ Some o
added_step name o p os true t none more = absurd (none-some p (sym none ∙ ap (λ b. if b then Some p else object_named name os) t))
added_step name o p os false t none more =
    ap (λ b. if b then Some p else object_named name (os ++ o ∷ [])) t
    ∙ more (sym (ap (λ b. if b then Some p else object_named name os) t) ∙ none)

pub added_named : (name : ℕ) (o : Object) (os : List Object) → name ≡ o.name → object_named name os ≡ None → object_named name (os ++ o ∷ []) ≡ Some o
added_named name o [] e none = ap (λ b. if b then Some o else None) (eq-eqb o.name name (sym e))
added_named name o (p ∷ os) e none = added_step name o p os (p.name == name) refl none (added_named name o os e)

pub unadded_named : (name : ℕ) (o : Object) → name ≢ o.name → (os : List Object) → object_named name (os ++ o ∷ []) ≡ object_named name os
unadded_named name o differ [] = ap (λ b. if b then Some o else None) (false_from_ne_true (o.name == name) (λ s. differ (sym (eqb-true o.name name s))))
unadded_named name o differ (p ∷ os) = ap (λ x. if p.name == name then Some p else x) (unadded_named name o differ os)

-- 2. By number.

same_row : (o p : Option Object) (r q : Option ObjectRow) → o ≡ p → r ≡ q → IsRow p q → IsRow o r
same_row o p r q e is h = subst (λ x. IsRow x r) (sym e) (subst (IsRow p) (sym is) h)

added_at : (t : Bool) (n : Naming) → IsOneToOne n → (s now : State) (os : List Object) (o : Object) (row : ObjectRow) (number m : ℕ) → (m == number) ≡ t
    → ((k : ℕ) → IsRow (object_named (n k) os) (row_in s k)) → object_named (n number) os ≡ None → n number ≡ o.name → IsRow (Some o) (Some row)
    → row_in now number ≡ Some row → ((k : ℕ) → k ≢ number → row_in now k ≡ row_in s k)
    → IsRow (object_named (n m) (os ++ o ∷ [])) (row_in now m)
added_at true n one s now os o row number m e has none name is there others =
    let same = eqb-true m number e in
    same_row (object_named (n m) (os ++ o ∷ [])) (Some o) (row_in now m) (Some row)
    (added_named (n m) o os (ap n same ∙ name) (ap (λ k. object_named (n k) os) same ∙ none)) (ap (row_in now) same ∙ there) is
added_at false n one s now os o row number m e has none name is there others =
    let differ : m ≢ number = eqb-false m number e in
    same_row (object_named (n m) (os ++ o ∷ [])) (object_named (n m) os) (row_in now m) (row_in s m)
    (unadded_named (n m) o (λ x. differ (one m number (x ∙ sym name))) os) (others m differ) (has m)

-- one object more
pub rows_added : (n : Naming) → IsOneToOne n → (s now : State) (env : Env) (o : Object) (row : ObjectRow) (number : ℕ) → HasObjects n s env
    → (HasPlaces s → HasPlaces now) → object_named (n number) env.objects ≡ None → n number ≡ o.name → IsRow (Some o) (Some row)
    → (HasPlaces s → row_in now number ≡ Some row) → ((k : ℕ) → k ≢ number → row_in now k ≡ row_in s k)
    → HasObjects n now (with_object o env)
rows_added n one s now env o row number has places none name is there others =
    (places has.0, λ m. added_at (m == number) n one s now env.objects o row number m refl has.1 none name is (there has.0) others)

pub rows_added_ok : {E : Type 0} (r : Result ℕ E) (s now : State) (row : ObjectRow) → IfOk r (λ number. HasPlaces s → row_in now number ≡ Some row)
    → IfOk r (λ number. (k : ℕ) → k ≢ number → row_in now k ≡ row_in s k) → OnOk r (HasPlaces s → HasPlaces now)
    → IfOk r (λ number. (n : Naming) → IsOneToOne n → (env : Env) (o : Object) → HasObjects n s env → object_named o.name env.objects ≡ None
    → n number ≡ o.name → IsRowOf o (Some row) → HasObjects n now (with_object o env))
rows_added_ok (Ok number) s now row there others places =
    λ n one env o has none name is.
    rows_added n one s now env o row number has places (ap (λ k. object_named k env.objects) name ∙ none) name is there others
rows_added_ok (Err e) s now row there others places = tt

if_row : (o : Option Object) (f : Object → Object) (r q : Option ObjectRow) → ((p : Object) → IsRowOf p r → IsRowOf (f p) q) → IsRow o r
    → IsRow (option_map f o) q
if_row None f r q changes is = tt
if_row (Some p) f r q changes is = changes p is

changed_at : (t : Bool) (n : Naming) → IsOneToOne n → (s now : State) (os : List Object) (f : Object → Object) (number m : ℕ) → (m == number) ≡ t
    → ((o : Object) → (f o).name ≡ o.name) → ((k : ℕ) → IsRow (object_named (n k) os) (row_in s k))
    → ((o : Object) → IsRowOf o (row_in s number) → IsRowOf (f o) (row_in now number)) → ((k : ℕ) → k ≢ number → row_in now k ≡ row_in s k)
    → IsRow (object_named (n m) (changed_object (n number) f os)) (row_in now m)
changed_at true n one s now os f number m e kept has changes others =
    let same = eqb-true m number e in
    same_row (object_named (n m) (changed_object (n number) f os)) (option_map f (object_named (n number) os)) (row_in now m) (row_in now number)
    (ap (λ k. object_named (n k) (changed_object (n number) f os)) same ∙ changed_named f kept (n number) os) (ap (row_in now) same)
    (if_row (object_named (n number) os) f (row_in s number) (row_in now number) changes (has number))
changed_at false n one s now os f number m e kept has changes others =
    let differ : m ≢ number = eqb-false m number e in
    same_row (object_named (n m) (changed_object (n number) f os)) (object_named (n m) os) (row_in now m) (row_in s m)
    (other_named f kept (n number) (n m) (λ x. differ (one m number x)) os) (others m differ) (has m)

-- the object of a number is changed, and so is its row
pub rows_changed : (n : Naming) → IsOneToOne n → (s now : State) (env : Env) (f : Object → Object) (number : ℕ) → ((o : Object) → (f o).name ≡ o.name)
    → HasObjects n s env → (HasPlaces s → HasPlaces now) → ((o : Object) → IsRowOf o (row_in s number) → IsRowOf (f o) (row_in now number))
    → ((k : ℕ) → k ≢ number → row_in now k ≡ row_in s k) → HasObjects n now (changing_object (n number) f env)
rows_changed n one s now env f number kept has places changes others =
    (places has.0, λ m. changed_at (m == number) n one s now env.objects f number m refl kept has.1 changes others)
