-- What is done, as the beginning of a list of events.
use Rattle.std.proofs.Common.{◌≡◌, ℕ, zero, suc, ◌<◌, ◌-◌, Bool, List, [], ◌∷◌, ◌++◌, length, Option, Some, None, refl, ap, ap₂, ◌∙◌, arith}
use Rattle.std.specs.Prelude.{slice_get}
use Rattle.std.proofs.lemmas.List.{length_push}
use Rattle.std.proofs.lemmas.Option.{same_Some}
use Rattle.ub_base.specs.declared.names.Item.{Item}
use Rattle.c_typed.specs.declared.tree.Place.{Place}
use Rattle.run_evaluations.specs.Told.{Evaluation, last_given}
use Rattle.telling_laws.specs.Standing.{places}

pub beginning : (es : List Evaluation) (xs : List Place) → ((i : ℕ) (e : Evaluation) → slice_get es i ≡ Some e → slice_get xs i ≡ Some e.place) →
    (ahead : List Place) × (xs ≡ places es ++ ahead)
beginning [] xs f = (xs, refl)
beginning (e ∷ es) [] f = absurd (let z : None ≡ Some e.place = f 0 e refl in cc)
beginning (e ∷ es) (x ∷ xs) f =
    let r = beginning es xs (λ i d h. f (suc i) d h) in
    (r.0, ap₂ (λ z zs. z ∷ zs) (same_Some x e.place (f 0 e refl)) r.1)

pub next_ahead : (es : List Evaluation) (ahead : List Place) (v : Place) → slice_get (places es ++ ahead) (length es) ≡ Some v →
    (rest : List Place) × (ahead ≡ v ∷ rest)
next_ahead [] [] v h = absurd (cc)
next_ahead [] (x ∷ xs) v h = (xs, ap (λ z. z ∷ xs) (same_Some x v h))
next_ahead (e ∷ es) ahead v h = next_ahead es ahead v h

pub at_seam : (es : List Evaluation) (u : Place) (ahead : List Place) → slice_get (places es ++ u ∷ ahead) (length es) ≡ Some u
at_seam [] u ahead = refl
at_seam (e ∷ es) u ahead = at_seam es u ahead

pub last_split : (es : List Evaluation) (last : Evaluation) → 0 < length es → slice_get es (length es - 1) ≡ Some last →
    (front : List Evaluation) × (es ≡ front ++ (last ∷ []))
last_split [] last l h = absurd (omega (arith, l))
last_split (e ∷ []) last l h = ([], ap (λ z. z ∷ []) (same_Some e last h))
last_split (e ∷ d ∷ es) last l h =
    let r = last_split (d ∷ es) last (omega arith) (ap (slice_get (e ∷ d ∷ es)) (one_less (length es)) ∙ h) in
    (e ∷ r.0, ap (λ z. e ∷ z) r.1)
  where
    one_less : (n : ℕ) → suc (suc n - 1) ≡ suc (suc n) - 1
    one_less n = omega arith

pub places_push : (es : List Evaluation) (e : Evaluation) → places (es ++ (e ∷ [])) ≡ places es ++ (e.place ∷ [])
places_push [] e = refl
places_push (d ∷ es) e = ap (λ z. d.place ∷ z) (places_push es e)

pub begins_with : (es : List Evaluation) (ahead : List Place) (i : ℕ) (e : Evaluation) → slice_get es i ≡ Some e →
    slice_get (places es ++ ahead) i ≡ Some e.place
begins_with [] ahead i e h = absurd (cc)
begins_with (d ∷ es) ahead zero e h = ap (λ o. place_in o) h
  where
    place_in : Option Evaluation → Option Place
    place_in None = None
    place_in (Some x) = Some x.place
begins_with (d ∷ es) ahead (suc i) e h = begins_with es ahead i e h

-- ---- the last one
pub last_at : (es : List Evaluation) (e : Evaluation) → slice_get (es ++ (e ∷ [])) (length es) ≡ Some e
last_at [] e = refl
last_at (d ∷ es) e = last_at es e

pub at_last : (es : List Evaluation) (e : Evaluation) → slice_get (es ++ (e ∷ [])) (length (es ++ (e ∷ [])) - 1) ≡ Some e
at_last es e = ap (slice_get (es ++ (e ∷ []))) (let h = length_push es e in omega (arith, h)) ∙ last_at es e

pub pushed_length : (es : List Evaluation) (e : Evaluation) → 0 < length (es ++ (e ∷ []))
pushed_length es e = let h = length_push es e in omega (arith, h)

pub append_one : {X : Type 0} (xs : List X) (u : X) (vs : List X) → (xs ++ (u ∷ [])) ++ vs ≡ xs ++ u ∷ vs
append_one [] u vs = refl
append_one (x ∷ xs) u vs = ap (λ z. x ∷ z) (append_one xs u vs)

pub places_more : (es : List Evaluation) (e : Evaluation) (vs : List Place) → places (es ++ (e ∷ [])) ++ vs ≡ places es ++ e.place ∷ vs
places_more es e vs = ap (λ z. z ++ vs) (places_push es e) ∙ append_one (places es) e.place vs

-- ---- what the last one is given
pub given_last : (body : Item → Bool) (front : List Evaluation) (e : Evaluation) →
    last_given body (front ++ (e ∷ [])) ≡ front ++ (record e { body = body } ∷ [])
given_last body [] e = refl
given_last body (d ∷ []) e = refl
given_last body (d ∷ c ∷ front) e = ap (λ z. d ∷ z) (given_last body (c ∷ front) e)

pub given_length : (body : Item → Bool) (es : List Evaluation) → length (last_given body es) ≡ length es
given_length body [] = refl
given_length body (e ∷ []) = refl
given_length body (d ∷ e ∷ es) = ap suc (given_length body (e ∷ es))

pub given_from : (body : Item → Bool) (es : List Evaluation) (i : ℕ) (e : Evaluation) → slice_get (last_given body es) i ≡ Some e →
    (d : Evaluation) × (slice_get es i ≡ Some d) × (d.place ≡ e.place)
given_from body [] i e h = absurd (cc)
given_from body (d ∷ []) zero e h = (d, refl, ap (λ (z : Evaluation). z.place) (same_Some (record d { body = body }) e h))
given_from body (d ∷ []) (suc i) e h = absurd (cc)
given_from body (c ∷ d ∷ es) zero e h = (c, refl, ap (λ (z : Evaluation). z.place) (same_Some c e h))
given_from body (c ∷ d ∷ es) (suc i) e h = given_from body (d ∷ es) i e h
