-- Runs of keywords, and names that are declared one after another.
use Rattle.std.proofs.Common.{
  ◌≡◌,
  ℕ,
  suc,
  Bool,
  true,
  false,
  List,
  [],
  ◌∷◌,
  ◌++◌,
  refl,
  sym,
  ap,
  subst,
  ◌∙◌,
  ◌+◌,
  ◌<◌,
  map,
  take,
  get_or,
  arith,
  inl,
  inr,
  Some,
}
use Rattle.c_lex.specs.declared.token.Word.{Word as AWord}
use Rattle.std.specs.Prelude.{nat_lt, length, Option, None}
use Rattle.std.proofs.lemmas.Bool.{cases_lt, cond-true, lt-ltb}
use Rattle.std.proofs.lemmas.List.{take_more, get_or-map, length-map, append_assoc}
use Rattle.c_lex.specs.TokenText.{kind_at}
use Rattle.c_lex.specs.declared.token.TokenKind.{TokenKind}
use Rattle.c_lex.specs.declared.token.TokenKind.TheVariants as token
use Rattle.c_ast.specs.Input.{Input, declared, kind, next}
use Rattle.c_grammar.specs.Rules.{Words, Word}
use Rattle.parse_spec.specs.Steps.{allows, word_of, words_from, is_string, strings_from}
use Rattle.parse_cursor.specs.Declarations.{said, declared_at}
use Rattle.parse_cursor.specs.declared.scope.Declared.{Declared}
use Rattle.parse_cursor.proofs.Cursors.{kind_within, next_at}

-- one keyword more behind a run
pub one_more_word : (allowed : AWord → Bool) (words : List AWord) (a : AWord) (s m t : Input)
    → Words allowed words s m → allowed a ≡ true → Word a m t → Words allowed (words ++ a ∷ []) s t
one_more_word allowed [] a s m t run is takes = (t, ((is, subst (λ i. Word a i t) run takes), refl))
one_more_word allowed (b ∷ rest) a s m t run is takes = (run.0, (run.1.0, one_more_word allowed rest a run.0 m t run.1.1 is takes))

-- no keyword comes next, and so none that is allowed
pub no_word : (allowed : AWord → Bool) (k : Option TokenKind) → word_of k ≡ None → allows allowed k ≡ false
no_word allowed None none = refl
no_word allowed (Some (token.Keyword a)) none = absurd (cc)
no_word allowed (Some _) none = refl

pub next_word : (k : Option TokenKind) (a : AWord) → word_of k ≡ Some a → k ≡ Some (token.Keyword a)
next_word None a is = absurd (cc)
next_word (Some (token.Keyword b)) a is = cc
next_word (Some _) a is = absurd (cc)

pub words_stop : (allowed : AWord → Bool) (n : ℕ) (found : List AWord) (i : Input) → allows allowed (kind i) ≡ false
    → words_from allowed (suc n) found i ≡ Some (found, i)
unfolding words_from
words_stop allowed n found i none = rw none refl

pub words_more : (allowed : AWord → Bool) (n : ℕ) (found : List AWord) (a : AWord) (i : Input) → kind i ≡ Some (token.Keyword a) → allowed a ≡ true
    → words_from allowed (suc n) found i ≡ words_from allowed n (found ++ a ∷ []) (next i)
unfolding words_from
words_more allowed n found a i is more = rw (is, more) refl

pub words_out : (allowed : AWord → Bool) (found : List AWord) (i : Input) → words_from allowed 0 found i ≡ None
unfolding words_from
words_out allowed found i = refl

-- a keyword comes next that isn't allowed
pub other_word : (allowed : AWord → Bool) (k : Option TokenKind) (a : AWord) → word_of k ≡ Some a → allowed a ≡ false → allows allowed k ≡ false
other_word allowed k a is none = ap (allows allowed) (next_word k a is) ∙ none

-- ---- string literals

pub string_here : (k : Option TokenKind) → is_string k ≡ true → k ≡ Some token.StringLit
string_here None is = absurd (cc)
string_here (Some token.StringLit) is = refl
string_here (Some _) is = absurd (cc)

pub strings_stop : (n count : ℕ) (i : Input) → is_string (kind i) ≡ false → strings_from (suc n) count i ≡ Some (count, i)
unfolding strings_from
strings_stop n count i none = rw none refl

pub strings_more : (n count : ℕ) (i : Input) → kind i ≡ Some token.StringLit → strings_from (suc n) count i ≡ strings_from n (count + 1) (next i)
unfolding strings_from
strings_more n count i is = rw is refl

pub string_taken : (s m : Input) (turn : ℕ) → m ≡ record s { at = s.at + turn }
    → ((k : ℕ) → k < turn → kind_at s.tokens (s.at + k) ≡ Some token.StringLit) → kind m ≡ Some token.StringLit
    → (next m ≡ record s { at = s.at + (turn + 1) }) × ((k : ℕ) → k < turn + 1 → kind_at s.tokens (s.at + k) ≡ Some token.StringLit)
unfolding kind
string_taken s m turn to literals is =
    let here : kind (record s { at = s.at + turn }) ≡ Some token.StringLit = subst (λ i. kind i ≡ Some token.StringLit) to is in
    let on : s.at + turn + 1 ≡ s.at + (turn + 1) = omega arith in (
      ap next to ∙ next_at (record s { at = s.at + turn }) (kind_within (record s { at = s.at + turn }) token.StringLit here) ∙ ap
          (λ n. record s { at = n }) on,
      (λ k h. elim (cases_lt k turn) [
        | inl less ↦ literals k less
        | inr more ↦ (let last : turn ≡ k = omega arith in subst (λ n. kind_at s.tokens (s.at + n) ≡ Some token.StringLit) last here)
      ]),
    )

-- ---- declarations again

pub same_length : (ds es : List Declared) (p : List (ℕ × Bool)) → map said ds ≡ p → map said es ≡ p → length es ≡ length ds
same_length ds es p d e = sym (length-map es said) ∙ ap length (e ∙ sym d) ∙ length-map ds said

-- the first of the parameters that are kept are in scope again
abbrev pub with_first : ℕ → Input → Input
with_first k i = record i { names = i.names ++ take k i.prototype }

pub one_more_parameter : (p : List (ℕ × Bool)) (i m new : Input) (k : ℕ) (x : Declared) (items : List Declared) → map said items ≡ p → p ≡ i.prototype
    → k < length items → x ≡ get_or items k x → x.at < length i.tokens.list → m ≡ with_first k i → new ≡ declared_at x.at x.typedef m
    → new ≡ with_first (k + 1) i
unfolding declared
one_more_parameter p i m new k x items all kept h is within before now =
    let long : k < length i.prototype = subst (λ q. k < length q) (all ∙ kept) (rw length-map h) in
    let one : get_or i.prototype k (said x) ≡ said x =
    subst (λ q. get_or q k (said x) ≡ said x) (all ∙ kept) (get_or-map said items k x (said x) h ∙ ap said (sym is)) in
    let m2 : Input = with_first k i in
    now ∙ ap (declared_at x.at x.typedef) before
    ∙ cond-true (nat_lt x.at (length i.tokens.list)) (declared x.at x.typedef m2) m2 (lt-ltb x.at (length i.tokens.list) within)
    ∙ ap (λ ns. record i { names = ns }) (append_assoc i.names (take k i.prototype) (said x ∷ [])
    ∙ ap (λ d. i.names ++ (take k i.prototype ++ d ∷ [])) (sym one) ∙ ap (λ q. i.names ++ q) (sym (take_more i.prototype k (said x) long)))
