-- Composite parameters, one place after the other.
use Rattle.std.proofs.Common.{
  ◌≡◌,
  ℕ,
  zero,
  suc,
  ◌+◌,
  ◌<◌,
  ◌≤◌,
  List,
  [],
  ◌∷◌,
  ◌++◌,
  length,
  get_or,
  drop,
  add-one,
  map,
  Some,
  refl,
  sym,
  ap,
  ◌∙◌,
  subst,
  append_assoc,
  append-nil,
  arith,
}
use Rattle.std.specs.Prelude.{slice_get}
use Rattle.std.proofs.lemmas.List.{map-append}
use Rattle.c_types.specs.declared.ty.Qual.{Qual}
use Rattle.c_types.specs.Types.{Qualified, Params, more, params_of, qualified_of, composites, composite_param}

-- the composites of two lists of parameters
abbrev pub joined : List Qualified → List Qualified → List Qualified
joined [] qs = []
joined (p ∷ ps) [] = p ∷ joined ps []
joined (p ∷ ps) (q ∷ qs) = composite_param p (Some q) ∷ joined ps qs

pub composites_none : (ps : List Qualified) → params_of (joined ps []) ≡ params_of ps
composites_none [] = refl
composites_none (p ∷ ps) = ap (more p.constant p.ty) (composites_none ps)

pub composites_joined : (ps qs : List Qualified) → params_of (joined ps qs) ≡ composites (params_of ps) (params_of qs)
composites_joined [] qs = refl
composites_joined (p ∷ ps) [] = composites_none (p ∷ ps)
composites_joined (p ∷ ps) (q ∷ qs) =
    let front : Params → Params = λ x. more p.constant (composite_param p (Some q)).ty x in
    ap front (composites_joined ps qs)

drop_none : (n : ℕ) → map qualified_of (drop n []) ≡ []
drop_none zero = refl
drop_none (suc n) = refl

next : (xs bs : List Qual) (i : ℕ) (x : Qual) → i < length xs → x ≡ get_or xs i x →
    joined (map qualified_of (drop i xs)) (map qualified_of (drop i bs))
    ≡ composite_param (qualified_of x) (slice_get (map qualified_of bs) i) ∷ joined (map qualified_of (drop (suc i) xs)) (map qualified_of (drop (suc i) bs))
next [] bs i x h e = absurd (omega arith)
next (a ∷ xs) [] zero x h e = ap (λ y. qualified_of y ∷ joined (map qualified_of xs) []) (sym e)
next (a ∷ xs) (b ∷ bs) zero x h e = ap (λ y. composite_param (qualified_of y) (Some (qualified_of b)) ∷ joined (map qualified_of xs) (map qualified_of bs))
    (sym e)
next (a ∷ xs) [] (suc i) x h e =
    subst (λ qs. joined (map qualified_of (drop i xs)) qs ≡ qualified_of x ∷ joined (map qualified_of (drop (suc i) xs)) []) (drop_none i)
    (next xs [] i x (omega arith) e)
next (a ∷ xs) (b ∷ bs) (suc i) x h e = next xs bs i x (omega arith) e

pub joined_more :
    (xs bs done new : List Qual) (i : ℕ) (x q : Qual) (total : List Qualified) → i < length xs → x ≡ get_or xs i x →
    qualified_of q ≡ composite_param (qualified_of x) (slice_get (map qualified_of bs) i) → new ≡ done ++ q ∷ [] →
    map qualified_of done ++ joined (map qualified_of (drop i xs)) (map qualified_of (drop i bs)) ≡ total →
    map qualified_of new ++ joined (map qualified_of (drop (i + 1) xs)) (map qualified_of (drop (i + 1) bs)) ≡ total
joined_more xs bs done new i x q total h e own is before =
    let rest : List Qualified = joined (map qualified_of (drop (suc i) xs)) (map qualified_of (drop (suc i) bs)) in
    ap (λ k. map qualified_of new ++ joined (map qualified_of (drop k xs)) (map qualified_of (drop k bs))) (add-one i)
    ∙ (ap (λ ps. map qualified_of ps ++ rest) is
    ∙ (ap (λ ps. ps ++ rest) (map-append qualified_of done (q ∷ []))
    ∙ (append_assoc (map qualified_of done) (qualified_of q ∷ []) rest
    ∙ (ap (λ p. map qualified_of done ++ (p ∷ rest)) own
    ∙ (ap (λ ps. map qualified_of done ++ ps) (sym (next xs bs i x h e))
    ∙ before)))))

past : (xs : List Qual) (i : ℕ) → length xs ≤ i → drop i xs ≡ []
past [] zero h = refl
past [] (suc i) h = refl
past (x ∷ xs) zero h = absurd (omega arith)
past (x ∷ xs) (suc i) h = past xs i (omega arith)

pub joined_all :
    (xs bs done : List Qual) (i : ℕ) → length xs ≤ i →
    map qualified_of done ++ joined (map qualified_of (drop i xs)) (map qualified_of (drop i bs)) ≡ joined (map qualified_of xs) (map qualified_of bs) →
    params_of (map qualified_of done) ≡ composites (params_of (map qualified_of xs)) (params_of (map qualified_of bs))
joined_all xs bs done i h before =
    let left : List Qualified = map qualified_of (drop i bs) in
    ap params_of (sym (append-nil (map qualified_of done)))
    ∙ (ap (λ (ys : List Qual). params_of (map qualified_of done ++ joined (map qualified_of ys) left)) (sym (past xs i h))
    ∙ (ap params_of before
    ∙ composites_joined (map qualified_of xs) (map qualified_of bs)))
