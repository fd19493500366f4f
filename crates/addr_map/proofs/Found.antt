-- The row of a name.
use Rattle.std.proofs.Common.{◌≡◌, ℕ, ◌+◌, ◌<◌, Bool, true, false, cond, refl, sym, ◌∙◌, subst, arith, List, [], ◌∷◌, Some, None, Option}
use Rattle.std.specs.Prelude.{◌==◌}
use Rattle.std.proofs.lemmas.Bool.Decides.{nat_tests}
use Rattle.ub_base.specs.declared.names.ObjName.{ObjName}
use Rattle.ub_base.specs.Names.{same_object}
use Rattle.ub_base.proofs.NameLemmas.{same_object_is, same_object_refl}
use Rattle.addr_map.specs.declared.map.Row.{Row}
use Rattle.addr_map.specs.Rows.{first_row, row_of}
use Rattle.addr_map.specs.Sound.{Above, Apart, EachHeld}
use Rattle.addr_map.proofs.RowLists.{size_of_lawful}

-- the row at a base where it has that name
abbrev pub named : ObjName → Option Row → Option Row
named x None = None
named x (Some r) = cond (same_object r.name x) (Some r) None

some_is : (a b : ℕ) → Some a ≡ Some b → a ≡ b
some_is a b h = cc

-- the base by which a row of that name is found
at_base : (bases : ObjName → Option ℕ) (x : ObjName) (r : Row) (b : ℕ) → bases x ≡ Some b → bases r.name ≡ Some r.base →
    same_object r.name x ≡ true → r.base ≡ b
at_base bases x r b h at same =
    some_is r.base b (sym at ∙ subst (λ (y : ObjName). bases y ≡ Some b) (sym (same_object_is r.name x same)) h)

other_if : (t : Bool) (bases : ObjName → Option ℕ) (x : ObjName) (r : Row) → same_object r.name x ≡ t → bases x ≡ None →
    bases r.name ≡ Some r.base → t ≡ false
other_if true bases x r same h at =
    let none : bases r.name ≡ None = subst (λ (y : ObjName). bases y ≡ None) (sym (same_object_is r.name x same)) h in
    absurd (cc)
other_if false bases x r same h at = refl

pub none_found : (bases : ObjName → Option ℕ) (x : ObjName) (rs : List Row) → bases x ≡ None → EachHeld bases rs → row_of rs x ≡ None
none_found bases x [] h held = refl
none_found bases x (r ∷ rs) h held =
    rw (other_if (same_object r.name x) bases x r refl h held.0.0) (none_found bases x rs h held.1)

above_if : (t : Bool) (bases : ObjName → Option ℕ) (x : ObjName) (r : Row) (b : ℕ) → same_object r.name x ≡ t → bases x ≡ Some b →
    bases r.name ≡ Some r.base → b < r.base → t ≡ false
above_if true bases x r b same h at lt = absurd (omega (arith, at_base bases x r b h at same))
above_if false bases x r b same h at lt = refl

none_above : (bases : ObjName → Option ℕ) (x : ObjName) (b n : ℕ) (rs : List Row) → bases x ≡ Some b → b < n → Above n rs → EachHeld bases rs →
    row_of rs x ≡ None
none_above bases x b n [] h lt above held = refl
none_above bases x b n (r ∷ rs) h lt above held =
    rw (above_if (same_object r.name x) bases x r b refl h held.0.0 (omega (arith, above.0))) (none_above bases x b n rs h lt above.1 held.1)

false_up : false ≡ true → ⊥
false_up h = cc

base_tie : (b c : ℕ) → c ≡ b → (b == c) ≡ true
base_tie b c e = grind (arith, nat_tests)

base_below : (b : ℕ) (r : Row) → (b == r.base) ≡ true → 0 < r.size → b < r.base + r.size
base_below b r t some = grind (arith, nat_tests)

found_if : (same at : Bool) (r : Row) (x : ObjName) (found rest : Option Row) → same ≡ same_object r.name x → (same ≡ true → at ≡ true) →
    (at ≡ true → rest ≡ None) → rest ≡ named x found → cond same (Some r) rest ≡ named x (cond at (Some r) found)
found_if true true r x found rest e up down h = rw (← e) refl
found_if true false r x found rest e up down h = absurd (false_up (up refl))
found_if false true r x found rest e up down h = rw (← e) (down refl)
found_if false false r x found rest e up down h = h

pub found_is : (bases : ObjName → Option ℕ) (x : ObjName) (b : ℕ) (rs : List Row) → bases x ≡ Some b → Apart rs → EachHeld bases rs →
    row_of rs x ≡ named x (first_row (λ r. b == r.base) rs)
found_is bases x b [] h apart held = refl
found_is bases x b (r ∷ rs) h apart held =
    found_if (same_object r.name x) (b == r.base) r x (first_row (λ r. b == r.base) rs) (row_of rs x) refl
    (λ s. base_tie b r.base (at_base bases x r b h held.0.0 s))
    (λ t. none_above bases x b (r.base + r.size) rs h (base_below b r t (size_of_lawful r held.0.1)) apart.0 held.1)
    (found_is bases x b rs h apart.1 held.1)

pub named_same : (x : ObjName) (r : Row) → r.name ≡ x → named x (Some r) ≡ Some r
named_same x r e =
    let t : same_object r.name x ≡ true = subst (λ (y : ObjName). same_object r.name y ≡ true) e (same_object_refl r.name) in
    rw t refl

named_if : (t : Bool) (x : ObjName) (r : Row) → same_object r.name x ≡ t → (r.name ≡ x → ⊥) → cond t (Some r) None ≡ None
named_if true x r h other = absurd (other (same_object_is r.name x h))
named_if false x r h other = refl

pub named_other : (x : ObjName) (r : Row) → (r.name ≡ x → ⊥) → named x (Some r) ≡ None
named_other x r other = named_if (same_object r.name x) x r refl other
