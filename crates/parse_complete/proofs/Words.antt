-- Keywords, identifiers and string literals that are spelled are read.
use Rattle.std.proofs.Common.{
  ◌≡◌,
  ℕ,
  zero,
  suc,
  ◌+◌,
  ◌<◌,
  Bool,
  true,
  false,
  List,
  [],
  ◌∷◌,
  ◌++◌,
  Option,
  Some,
  None,
  refl,
  sym,
  ap,
  ◌∙◌,
  arith,
  append_assoc,
  append-nil,
}
use Rattle.std.proofs.Math.Dec.{eqb-suc-zero}
use Rattle.c_lex.specs.declared.token.TokenKind.{TokenKind}
use Rattle.c_lex.specs.declared.token.TokenKind.TheVariants as token
use Rattle.c_lex.specs.declared.token.Word.{Word as AWord}
use Rattle.c_ast.specs.Input.{Input, kind}
use Rattle.c_grammar.specs.Rules.{Words, Identifier, Literals, Strings}
use Rattle.parse_spec.specs.Steps.{left, turns, allows, words_from, words, identifier, maybe_identifier_by, maybe_identifier, is_string, strings_from, strings}
use Rattle.parse_complete.proofs.Steps.{word_takes, takes_one}

words_from_read : (allowed : AWord → Bool) (all : List AWord) (s t : Input) → Words allowed all s t → allows allowed (kind t) ≡ false → (n : ℕ) → left s < n
    → (found : List AWord) → words_from allowed n found s ≡ Some (found ++ all, t)
unfolding words_from
words_from_read allowed all s t h stop zero lt found = absurd (omega (arith, lt))
words_from_read allowed [] s t h stop (suc n) lt found =
    let here : allows allowed (kind s) ≡ false = ap (λ x. allows allowed (kind x)) (sym h) ∙ stop in
    rw (here, h) (ap (λ l. Some (l, s)) (sym (append-nil found)))
words_from_read allowed (a ∷ rest) s t h stop (suc n) lt found =
    let word = h.1.0.1 in
    let p = word_takes a s h.0 word in
    let more = words_from_read allowed rest h.0 t h.1.1 stop n (omega arith) (found ++ a ∷ []) in
    rw (word.0, h.1.0.0, ← word.1, more) (ap (λ l. Some (l, t)) (append_assoc found (a ∷ []) rest))

pub words_read : (allowed : AWord → Bool) (all : List AWord) (s t : Input) → Words allowed all s t → allows allowed (kind t) ≡ false →
    words allowed s ≡ Some (all, t)
words_read allowed all s t h stop = words_from_read allowed all s t h stop (turns s) (omega arith) []

pub identifier_read : (n : ℕ) (s t : Input) → Identifier n s t → identifier s ≡ Some (n, t)
unfolding identifier
identifier_read n s t (at, (is, same)) = rw (is, at, same) refl

-- the next token is no name
abbrev no_name : Option TokenKind → Bool
no_name (Some token.Name) = false
no_name _ = true

none_by : (k : Option TokenKind) (s : Input) → no_name k ≡ true → maybe_identifier_by k s ≡ Some (None, s)
none_by (Some token.Name) s h = absurd (cc)
none_by _ s h = refl

pub no_identifier : (s : Input) → no_name (kind s) ≡ true → maybe_identifier s ≡ Some (None, s)
unfolding maybe_identifier
no_identifier s h = none_by (kind s) s h

pub some_identifier : (n : ℕ) (s t : Input) → Identifier n s t → maybe_identifier s ≡ Some (Some n, t)
unfolding maybe_identifier
some_identifier n s t (at, (is, same)) = rw (is, at, same) refl

strings_from_read : (count : ℕ) (s t : Input) → Literals count s t → is_string (kind t) ≡ false → (n : ℕ) → left s < n → (found : ℕ)
    → strings_from n found s ≡ Some (found + count, t)
unfolding strings_from
strings_from_read count s t h stop zero lt found = absurd (omega (arith, lt))
strings_from_read zero s t h stop (suc n) lt found =
    let here : is_string (kind s) ≡ false = ap (λ x. is_string (kind x)) (sym h) ∙ stop in
    let same : found + zero ≡ found = omega arith in
    rw (here, h, same) refl
strings_from_read (suc count) s t h stop (suc n) lt found =
    let one = h.1.0 in
    let p = takes_one token.StringLit s h.0 one in
    let more = strings_from_read count h.0 t h.1.1 stop n (omega arith) (found + 1) in
    let same : found + 1 + count ≡ found + suc count = omega arith in
    rw (one.0, ← one.1, more, same) refl

-- adjacent string literals, where no more of them follow
pub strings_read : (n count : ℕ) (s t : Input) → Strings n count s t → is_string (kind t) ≡ false → strings s ≡ Some (count, t)
unfolding strings
strings_read n zero s t h stop = absurd h
strings_read n (suc count) s t h stop =
    let all = strings_from_read (suc count) s t h.1 stop (turns s) (omega arith) 0 in
    let same : 0 + suc count ≡ suc count = omega arith in
    rw (all, same, eqb-suc-zero count) refl
