-- The first token with a text has the number that stands for it.
use Rattle.std.proofs.Common.{◌≡◌, ◌≢◌, ℕ, zero, suc, ◌+◌, ◌-◌, ◌<◌, ◌≤◌, true, false, List, [], ◌∷◌, length, get_or, refl, sym, ap, ◌∙◌, subst, arith}
use Rattle.std.proofs.Common.{Some, None, inl, inr}
use Rattle.std.specs.Prelude.{slice_get, if◌then◌else◌}
use Rattle.std.specs.Str.{bytes_eq}
use Rattle.std.proofs.lemmas.Bool.{false_from_ne_true}
use Rattle.std.proofs.lemmas.Option.{slice_get_cases, slice_get_past, slice_get_within, get_or_from_slice_get, none-some}
use Rattle.std.specs.Option.{option_map, unwrap_or}
use Rattle.std.proofs.lemmas.Slice.Eq.{bytes_eq-Decides}
use Rattle.c_lex.specs.TokenText.{TokenText, span_text}
use Rattle.c_lex.specs.declared.token.Token.{Token}
use Rattle.c_spelling.specs.Spelling.{IsFirst, IsSpelling}
use Rattle.typing_env.specs.Env.{spelled_first, symbol_in, last_line}

same_bytes : (a b : List ℕ) → a ≡ b → bytes_eq a b ≡ true
same_bytes a b e = (bytes_eq-Decides a b).1 e

other_bytes : (a b : List ℕ) → a ≢ b → bytes_eq a b ≡ false
other_bytes a b e = false_from_ne_true (bytes_eq a b) (λ same. e ((bytes_eq-Decides a b).0 same))

pub first_at : (source text : List ℕ) (base n : ℕ) (ts : List Token) → n < length ts → span_text source (slice_get ts n) ≡ text
    → ((k : ℕ) → k < n → span_text source (slice_get ts k) ≢ text) → spelled_first source text base ts ≡ base + n
first_at source text base n [] less same first = absurd (omega arith)
first_at source text base zero (t ∷ ts) less same first =
    ap (λ b. if b then base else spelled_first source text (base + 1) ts) (same_bytes (span_text source (Some t)) text same) ∙ omega arith
first_at source text base (suc n) (t ∷ ts) less same first =
    ap (λ b. if b then base else spelled_first source text (base + 1) ts) (other_bytes (span_text source (Some t)) text (first zero (omega arith)))
    ∙ first_at source text (base + 1) n ts (omega arith) same (λ k h. first (suc k) (omega arith)) ∙ omega arith

named : (t : TokenText) (n : ℕ) (x : Token) → IsFirst t (span_text t.source (Some x)) n → n < length t.list → symbol_in t (Some x) ≡ n
named t n x f less = first_at t.source (span_text t.source (Some x)) 0 n t.list less f.same f.first ∙ omega arith

-- the number of a token is its symbol
pub symbol_at : (t : TokenText) (spelled : List ℕ) (at : ℕ) → IsSpelling t spelled → at < length spelled
    → get_or spelled at 0 ≡ symbol_in t (slice_get t.list at)
symbol_at t spelled at all less =
    let whole = all.whole in
    let below = all.within at less in
    let n : ℕ = get_or spelled at 0 in
    elim (slice_get_cases t.list at).1 [
      | inl c ↦
          (let here = c.2 in
          sym (ap (symbol_in t) here
          ∙ named t n c.0 (subst (λ text. IsFirst t text n) (ap (span_text t.source) here) (all.firsts at less)) (omega arith)))
      | inr c ↦ (let past = c.0 in absurd (omega arith))
    ]

-- behind the last token
pub symbol_past : (t : TokenText) (spelled : List ℕ) (at : ℕ) → IsSpelling t spelled → length spelled ≤ at → length t.list ≡ symbol_in t (slice_get t.list at)
symbol_past t spelled at all past =
    let whole = all.whole in
    sym (ap (symbol_in t) (slice_get_past t.list at (omega arith)))

-- as a look-up tells them
pub symbol_found : (t : TokenText) (spelled : List ℕ) (at symbol : ℕ) → IsSpelling t spelled → slice_get spelled at ≡ Some symbol
    → symbol ≡ symbol_in t (slice_get t.list at)
symbol_found t spelled at symbol all is =
    sym (get_or_from_slice_get spelled at symbol 0 is) ∙ symbol_at t spelled at all (slice_get_within spelled at symbol is)

pub symbol_none : (t : TokenText) (spelled : List ℕ) (at : ℕ) → IsSpelling t spelled → slice_get spelled at ≡ None
    → length t.list ≡ symbol_in t (slice_get t.list at)
symbol_none t spelled at all none = elim (slice_get_cases spelled at).1 [
  | inl c ↦ absurd (none-some c.0 (sym none ∙ c.2))
  | inr c ↦ symbol_past t spelled at all c.0
]

one_less : (n : ℕ) → suc n - 1 ≡ n
one_less n = omega arith

-- the line of the last token
last_at : (line : ℕ) (t : Token) (ts : List Token)
    → unwrap_or (option_map (λ token. token.line) (slice_get (t ∷ ts) (length ts))) line ≡ last_line t.line ts
last_at line t [] = refl
last_at line t (u ∷ us) = last_at line u us

pub last_is : (line : ℕ) (ts : List Token) → unwrap_or (option_map (λ token. token.line) (slice_get ts (length ts - 1))) line ≡ last_line line ts
last_is line [] = refl
last_is line (t ∷ ts) =
    ap (λ n. unwrap_or (option_map (λ (token : Token). token.line) (slice_get (t ∷ ts) n)) line) (one_less (length ts)) ∙ last_at line t ts
