-- Single tokens: what a step of the parser does where the token that comes next is known.
use Rattle.std.proofs.Common.{
  ◌≡◌,
  ◌≢◌,
  ℕ,
  ◌+◌,
  ◌-◌,
  ◌<◌,
  Bool,
  true,
  false,
  if◌then◌else◌,
  nat_lt,
  length,
  slice_get,
  Option,
  Some,
  None,
  refl,
  sym,
  ap,
  subst,
  ◌∙◌,
  arith,
}
use Rattle.std.proofs.lemmas.Bool.Decides.{nat_tests}
use Rattle.std.proofs.lemmas.Option.{slice_get_within}
use Rattle.std.specs.Option.{option_map}
use Rattle.c_lex.specs.declared.token.Token.{Token}
use Rattle.c_lex.specs.declared.token.TokenKind.{TokenKind}
use Rattle.c_lex.specs.declared.token.TokenKind.TheVariants as token
use Rattle.c_lex.specs.declared.token.Word.{Word as AWord}
use Rattle.c_lex.specs.declared.token.Mark.{Mark as AMark}
use Rattle.c_ast.specs.Input.{Input, kind, next}
use Rattle.c_grammar.specs.Rules.{Takes, Mark, Word}
use Rattle.parse_spec.specs.Steps.{left, sees, sees_word, after, after_word, expect, expect_word, is_mark, is_word}
use Rattle.parse_sound.proofs.Holding.{sees_is, sees_word_is, sees_of, sees_word_of}

pub some_is : {A : Type 0} {x y : A} → Some x ≡ Some y → x ≡ y
some_is h = cc

pub second_is : {A : Type 0} (a b : A) (s t : Input) → ◌≡◌ {A = Option (A × Input)} (Some (a, s)) (Some (b, t)) → s ≡ t
second_is {A} a b s t h = let e : ◌≡◌ {A = A × Input} (a, s) (b, t) = some_is h in ap (λ p. p.1) e

within : (i : Input) (k : TokenKind) (o : Option Token) → slice_get i.tokens.list i.at ≡ o → option_map (λ x. x.kind) o ≡ Some k → i.at < length i.tokens.list
within i k None e h = absurd (cc)
within i k (Some x) e h = slice_get_within i.tokens.list i.at x e

there : (i : Input) (k : TokenKind) → kind i ≡ Some k → i.at < length i.tokens.list
unfolding kind
there i k h = within i k (slice_get i.tokens.list i.at) refl h

next_case : (c : Bool) (size at : ℕ) → nat_lt at size ≡ c → at < size → size - (if c then at + 1 else at) < size - at
next_case true size at e lt = omega (arith, lt)
next_case false size at e lt = absurd (grind (arith, nat_tests, e, lt))

next_less : (i : Input) → i.at < length i.tokens.list → left (next i) < left i
unfolding left next
next_less i lt = next_case (nat_lt i.at (length i.tokens.list)) (length i.tokens.list) i.at refl lt

-- a token that is there is taken
pub takes_one : (k : TokenKind) (s t : Input) → Takes k s t → left t < left s
takes_one k s t h = subst (λ x. left x < left s) (sym h.1) (next_less s (there s k h.0))

pub mark_takes : (mark : AMark) (s t : Input) → Mark mark s t → left t < left s
mark_takes mark s t h = takes_one (token.Punct mark) s t h

pub word_takes : (word : AWord) (s t : Input) → Word word s t → left t < left s
word_takes word s t h = takes_one (token.Keyword word) s t h

pub expect_of : (mark : AMark) (i : Input) → kind i ≡ Some (token.Punct mark) → expect mark i ≡ Some (tt, next i)
unfolding expect
expect_of mark i h = rw (sees_of mark i h) refl

pub expect_word_of : (word : AWord) (i : Input) → kind i ≡ Some (token.Keyword word) → expect_word word i ≡ Some (tt, next i)
unfolding expect_word
expect_word_of word i h = rw (sees_word_of word i h) refl

pub eat_yes : (mark : AMark) (i : Input) → kind i ≡ Some (token.Punct mark) → after mark i ≡ next i
unfolding after
eat_yes mark i h = rw (sees_of mark i h) refl

pub eat_no : (mark : AMark) (i : Input) → sees mark i ≡ false → after mark i ≡ i
unfolding after
eat_no mark i h = rw h refl

pub eat_word_yes : (word : AWord) (i : Input) → kind i ≡ Some (token.Keyword word) → after_word word i ≡ next i
unfolding after_word
eat_word_yes word i h = rw (sees_word_of word i h) refl

pub eat_word_no : (word : AWord) (i : Input) → sees_word word i ≡ false → after_word word i ≡ i
unfolding after_word
eat_word_no word i h = rw h refl

-- a token that is none of this kind
pub sees_by : (mark : AMark) (i : Input) (k : Option TokenKind) → kind i ≡ k → is_mark mark k ≡ false → sees mark i ≡ false
unfolding sees
sees_by mark i k e h = ap (is_mark mark) e ∙ h

pub sees_word_by : (word : AWord) (i : Input) (k : Option TokenKind) → kind i ≡ k → is_word word k ≡ false → sees_word word i ≡ false
unfolding sees_word
sees_word_by word i k e h = ap (is_word word) e ∙ h

pub no_case : (b : Bool) → (b ≡ true → ⊥) → b ≡ false
no_case true h = absurd (h refl)
no_case false h = refl

pub sees_not : (mark : AMark) (i : Input) → kind i ≢ Some (token.Punct mark) → sees mark i ≡ false
sees_not mark i h = no_case (sees mark i) (λ e. h (sees_is mark i e))

pub sees_word_not : (word : AWord) (i : Input) → kind i ≢ Some (token.Keyword word) → sees_word word i ≡ false
sees_word_not word i h = no_case (sees_word word i) (λ e. h (sees_word_is word i e))
