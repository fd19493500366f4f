-- Tokens have one number exactly where they have one text.
use Rattle.std.proofs.Common.{
  ◌≡◌,
  ◌≢◌,
  ℕ,
  ◌+◌,
  ◌<◌,
  ◌≤◌,
  Bool,
  List,
  [],
  ◌∷◌,
  ◌++◌,
  length,
  get_or,
  refl,
  sym,
  ◌∙◌,
  ap,
  subst,
  arith,
  inl,
  inr,
  Some,
  None,
}
use Rattle.std.specs.Prelude.{◌==◌, Option, cond, unwrap_or}
use Rattle.std.specs.Str.{bytes_eq}
use Rattle.std.proofs.lemmas.Bool.{eqb-true, eq-eqb, cases_order, cases_lt, cond_both, both_ways}
use Rattle.std.proofs.lemmas.Bool.Decides.{same_from_decides}
use Rattle.std.proofs.lemmas.Slice.Eq.{bytes_eq-Decides}
use Rattle.std.proofs.lemmas.List.{get_or_append_left, get_or_push, length_push}
use Rattle.c_lex.specs.TokenText.{TokenText, text_at}
use Rattle.c_spelling.specs.Spelling.{IsFirst, IsFirstBefore, IsSpelling}

one_first : (t : TokenText) (text : List ℕ) (m n : ℕ) → IsFirst t text m → IsFirst t text n → m ≡ n
one_first t text m n a b = elim (cases_order m n) [
  | inl e ↦ e
  | inr other ↦ elim other [ inl less ↦ absurd (b.first m less a.same) | inr more ↦ absurd (a.first n more b.same) ]
]

-- the numbers of two tokens are compared as their texts are
pub same_number : (t : TokenText) (spelled : List ℕ) (i j : ℕ) → IsSpelling t spelled → i < length spelled → j < length spelled
    → (get_or spelled i 0 == get_or spelled j 0) ≡ bytes_eq (text_at t i) (text_at t j)
same_number t spelled i j all hi hj =
    let at_i = all.firsts i hi in
    let at_j = all.firsts j hj in
    let P : Type 0 = text_at t i ≡ text_at t j in
    same_from_decides {P = text_at t i ≡ text_at t j} (get_or spelled i 0 == get_or spelled j 0) (bytes_eq (text_at t i) (text_at t j)) (
      (λ e. sym at_i.same ∙ ap (text_at t) (eqb-true (get_or spelled i 0) (get_or spelled j 0) e) ∙ at_j.same),
      (λ e. eq-eqb (get_or spelled i 0) (get_or spelled j 0)
          (one_first t (text_at t j) (get_or spelled i 0) (get_or spelled j 0) (subst (λ text. IsFirst t text (get_or spelled i 0)) e at_i) at_j)),
    )
    (bytes_eq-Decides (text_at t i) (text_at t j))

pub first_is : (t : TokenText) (at : ℕ) (o : Option ℕ) → IsFirstBefore t at (text_at t at) o
    → IsFirst t (text_at t at) (unwrap_or o at) × (unwrap_or o at ≤ at)
first_is t at None none = (record { same = refl; first = none }, omega arith)
first_is t at (Some n) some = let below = some.0 in (some.1, omega arith)

wider : (t : TokenText) (at : ℕ) (text : List ℕ) (o : Option ℕ) → IsFirstBefore t at text o → text_at t at ≢ text → IsFirstBefore t (at + 1) text o
wider t at text None none other = λ k h. elim (cases_lt k at) [
  | inl less ↦ none k less
  | inr more ↦ (let last : k ≡ at = omega arith in λ e. other (subst (λ n. text_at t n ≡ text) last e))
]
wider t at text (Some n) some other = let below = some.0 in (omega arith, some.1)

-- what is known of each text, after one token more
pub first_after : (t : TokenText) (at : ℕ) (f g : List ℕ → Option ℕ) → ((text : List ℕ) → IsFirstBefore t at text (f text))
    → ((text : List ℕ) → g text ≡ cond (bytes_eq (text_at t at) text) (Some (unwrap_or (f (text_at t at)) at)) (f text))
    → (text : List ℕ) → IsFirstBefore t (at + 1) text (g text)
first_after t at f g old each text =
    let here = first_is t at (f (text_at t at)) (old (text_at t at)) in
    let P : Option ℕ → Type 0 = λ o. IsFirstBefore t (at + 1) text o in
    subst P (sym (each text))
    (cond_both (bytes_eq (text_at t at) text) (Some (unwrap_or (f (text_at t at)) at)) (f text) P
    (λ e.
    let same = (bytes_eq-Decides (text_at t at) text).0 e in
    let below = here.1 in
    (omega arith, subst (λ x. IsFirst t x (unwrap_or (f (text_at t at)) at)) same here.0))
    (λ e. wider t at text (f text) (old text) (λ same. both_ways (bytes_eq (text_at t at) text) e ((bytes_eq-Decides (text_at t at) text).1 same))))

-- one token more is spelled
pub spelled_more : (t : TokenText) (at : ℕ) (spelled new : List ℕ) (f g : List ℕ → Option ℕ) (text : List ℕ) (n : ℕ) → text ≡ text_at t at
    → n ≡ unwrap_or (f text) at → ((other : List ℕ) → g other ≡ cond (bytes_eq text other) (Some n) (f other)) → new ≡ spelled ++ n ∷ []
    → length spelled ≡ at → ((k : ℕ) → k < at → IsFirst t (text_at t k) (get_or spelled k 0)) → ((k : ℕ) → k < at → get_or spelled k 0 ≤ k)
    → ((other : List ℕ) → IsFirstBefore t at other (f other))
    → (length new ≡ at + 1) × ((k : ℕ) → k < at + 1 → IsFirst t (text_at t k) (get_or new k 0)) × ((k : ℕ) → k < at + 1 → get_or new k 0 ≤ k)
    × ((other : List ℕ) → IsFirstBefore t (at + 1) other (g other))
spelled_more t at spelled new f g text n e number each items whole firsts within known =
    let here = first_is t at (f (text_at t at)) (known (text_at t at)) in
    let num : n ≡ unwrap_or (f (text_at t at)) at = number ∙ ap (λ x. unwrap_or (f x) at) e in
    let before = λ (k : ℕ) (less : k < at).
    (let there : k < length spelled = omega arith in ap (λ l. get_or l k 0) items ∙ get_or_append_left spelled (n ∷ []) 0 k there) in
    let last = λ (k : ℕ) (same : k ≡ at). ap (λ l. get_or l k 0) items ∙ get_or_push spelled n 0 k (whole ∙ sym same) ∙ num in (
      ap length items ∙ length_push spelled n ∙ ap (λ k. k + 1) whole,
      (λ k h. elim (cases_lt k at) [
        | inl less ↦ subst (IsFirst t (text_at t k)) (sym (before k less)) (firsts k less)
        | inr more ↦
            (let same : k ≡ at = omega arith in
            subst (IsFirst t (text_at t k)) (sym (last k same))
            (subst (λ j. IsFirst t (text_at t j) (unwrap_or (f (text_at t at)) at)) (sym same) here.0))
      ]),
      (λ k h. elim (cases_lt k at) [
        | inl less ↦ subst (λ m. m ≤ k) (sym (before k less)) (within k less)
        | inr more ↦
            (let same : k ≡ at = omega arith in
            let low = here.1 in
            let below : unwrap_or (f (text_at t at)) at ≤ k = omega arith in
            subst (λ m. m ≤ k) (sym (last k same)) below)
      ]),
      first_after t at f g known (λ other.
          each other ∙ ap (λ x. cond (bytes_eq x other) (Some n) (f other)) e
          ∙ ap (λ m. cond (bytes_eq (text_at t at) other) (Some m) (f other)) num),
    )
