-- The tokens that names, literals and messages are read from.
use Rattle.std.proofs.Common.{
  ◌≡◌,
  ℕ,
  zero,
  suc,
  ◌+◌,
  ◌==◌,
  ◌<◌,
  Bool,
  true,
  false,
  if◌then◌else◌,
  length,
  Option,
  Some,
  None,
  refl,
  sym,
  ap,
  subst,
  ◌∙◌,
  inl,
  inr,
  arith,
}
use Rattle.std.specs.Prelude.{nat_lt}
use Rattle.std.specs.Option.{option_map}
use Rattle.std.proofs.lemmas.Bool.{cases_lt, lt-ltb}
use Rattle.std.proofs.lemmas.Bool.Decides.{nat_tests}
use Rattle.std.proofs.lemmas.Option.{slice_get_past}
use Rattle.c_lex.specs.TokenText.{TokenText, kind_at}
use Rattle.c_lex.specs.declared.token.Token.{Token}
use Rattle.c_lex.specs.declared.token.TokenKind.{TokenKind}
use Rattle.c_lex.specs.declared.token.TokenKind.TheVariants as token
use Rattle.c_lex.specs.declared.token.Mark.TheVariants as m
use Rattle.c_ast.specs.Input.{Input, kind, next}
use Rattle.c_ast.specs.Names.{IsToken, IsName, MaybeName, AreStrings}
use Rattle.parse_spec.specs.Specifiers.{message}
use Rattle.parse_spec.specs.Steps.{
  turns,
  take_token,
  ◌>>◌,
  pure,
  refuse,
  identifier_by,
  identifier,
  maybe_identifier_by,
  maybe_identifier,
  is_string,
  strings_from,
  some_strings,
  strings,
}
use Rattle.parse_spec.proofs.Adding.{expect_adds}
use Rattle.parse_names.proofs.Reading.{Gives, Reads, pure_reads, refuse_reads, bind_gives, then_reads}

-- there is no token of a kind past the last
pub kind_within : (t : TokenText) (n : ℕ) (k : TokenKind) → IsToken t k n → n < length t.list
kind_within t n k is = elim (cases_lt n (length t.list)) [
  | inl less ↦ less
  | inr past ↦
      (let none : option_map (λ (x : Token). x.kind) None ≡ Some k =
      sym (ap (option_map (λ (x : Token). x.kind)) (slice_get_past t.list n past)) ∙ is
      in absurd (cc))
]

pub kind_of_next : (t : TokenText) (i : Input) → i.tokens ≡ t → kind_at t i.at ≡ kind i
unfolding kind
kind_of_next t i same = ap (λ x. kind_at x i.at) (sym same)

pub tokens_stay : (t : TokenText) (i : Input) → i.tokens ≡ t → (next i).tokens ≡ t
unfolding next
tokens_stay t i same = same

next_at : (t : TokenText) (i : Input) → i.tokens ≡ t → i.at < length t.list → (next i).at ≡ i.at + 1
unfolding next
next_at t i same h = subst (λ x. i.at < length x.list → (if nat_lt i.at (length i.tokens.list) then i.at + 1 else i.at) ≡ i.at + 1) same
    (λ low. ap (λ b. if b then i.at + 1 else i.at) (lt-ltb i.at (length i.tokens.list) low)) h

-- ---- names

identifier_by_gives : (t : TokenText) (i : Input) (k : Option TokenKind) → i.tokens ≡ t → kind_at t i.at ≡ k → Gives t (IsName t) (identifier_by k i)
identifier_by_gives t i (Some token.Name) same is = (tokens_stay t i same, is)
identifier_by_gives t i _ same is = tt

pub identifier_reads : (t : TokenText) → Reads t (IsName t) identifier
unfolding identifier
identifier_reads t = record { reads = λ i same. identifier_by_gives t i (kind i) same (kind_of_next t i same) }

maybe_identifier_by_gives : (t : TokenText) (i : Input) (k : Option TokenKind) → i.tokens ≡ t → kind_at t i.at ≡ k
    → Gives t (MaybeName t) (maybe_identifier_by k i)
maybe_identifier_by_gives t i (Some token.Name) same is = (tokens_stay t i same, is)
maybe_identifier_by_gives t i _ same is = (same, tt)

pub maybe_identifier_reads : (t : TokenText) → Reads t (MaybeName t) maybe_identifier
unfolding maybe_identifier
maybe_identifier_reads t = record { reads = λ i same. maybe_identifier_by_gives t i (kind i) same (kind_of_next t i same) }

-- ---- adjacent string literals

abbrev FirstStrings : TokenText → ℕ → ℕ → Type 0
FirstStrings t first count = (k : ℕ) → k < count → IsToken t token.StringLit (first + k)

one_more : (t : TokenText) (first count at : ℕ) → FirstStrings t first count → at ≡ first + count → IsToken t token.StringLit at
    → FirstStrings t first (count + 1)
one_more t first count at all e is k low = elim (cases_lt k count) [
  | inl less ↦ all k less
  | inr past ↦ (let same : at ≡ first + k = omega (arith, e, low, past) in subst (IsToken t token.StringLit) same is)
]

strings_case : (t : TokenText) (n count first : ℕ) (i : Input) (k : Option TokenKind) → i.tokens ≡ t → FirstStrings t first count
    → (k ≡ Some token.StringLit → Gives t (FirstStrings t first) (strings_from n (count + 1) (next i)))
    → Gives t (FirstStrings t first) ((if is_string k then take_token >> strings_from n (count + 1) else pure count) i)
strings_case t n count first i (Some token.StringLit) same all more = more refl
strings_case t n count first i _ same all more = (same, all)

strings_from_gives : (t : TokenText) (n count first : ℕ) (i : Input) → i.tokens ≡ t → i.at ≡ first + count → FirstStrings t first count
    → Gives t (FirstStrings t first) (strings_from n count i)
unfolding strings_from
strings_from_gives t zero count first i same e all = (same, all)
strings_from_gives t (suc n) count first i same e all = strings_case t n count first i (kind i) same all (λ string.
    let is = kind_of_next t i same ∙ string in
    let after = next_at t i same (kind_within t i.at token.StringLit is) in
    strings_from_gives t n (count + 1) first (next i) (tokens_stay t i same) (omega (arith, after, e)) (one_more t first count i.at all e is))

some_strings_case : (t : TokenText) (first count : ℕ) (c : Bool) → (count == 0) ≡ c → FirstStrings t first count
    → Reads t (AreStrings t first) (if c then refuse else pure count)
some_strings_case t first count true e all = refuse_reads
some_strings_case t first count false e all = pure_reads count (grind (arith, nat_tests, e), all)

some_strings_reads : (t : TokenText) (first count : ℕ) → FirstStrings t first count → Reads t (AreStrings t first) (some_strings count)
some_strings_reads t first count all = some_strings_case t first count (count == 0) refl all

pub strings_gives : (t : TokenText) (i : Input) → i.tokens ≡ t → Gives t (AreStrings t i.at) (strings i)
unfolding strings
strings_gives t i same = bind_gives (strings_from (turns i) 0 i) some_strings
    (strings_from_gives t (turns i) 0 i.at i same (omega arith) (λ k low. absurd (omega (arith, low)))) (some_strings_reads t i.at)

first_string : (t : TokenText) (first count : ℕ) → AreStrings t first count → IsToken t token.StringLit first
first_string t first count h = let e : first + 0 ≡ first = omega arith in subst (IsToken t token.StringLit) e (h.1 0 h.0)

pub message_reads : (t : TokenText) → Reads t (IsToken t token.StringLit) message
unfolding message
message_reads t = record {
  reads = λ i same. bind_gives (strings i) _ (strings_gives t i same) (λ count h.
      then_reads _ _ (expect_adds m.CloseParen) (then_reads _ _ (expect_adds m.Semicolon) (pure_reads i.at (first_string t i.at count h))));
}
