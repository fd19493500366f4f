-- Specifiers that are spelled are read.
use Rattle.std.proofs.Common.{
  ◌≡◌,
  ◌≢◌,
  ℕ,
  zero,
  suc,
  ◌<◌,
  ◌≤◌,
  ◌==◌,
  Bool,
  true,
  false,
  ◌||◌,
  List,
  [],
  ◌∷◌,
  ◌++◌,
  length,
  Option,
  Some,
  refl,
  sym,
  ap,
  ◌∙◌,
  subst,
  arith,
  append-nil,
}
use Rattle.std.proofs.lemmas.Bool.Decides.{nat_tests}
use Rattle.c_lex.specs.declared.token.TokenKind.{TokenKind}
use Rattle.c_lex.specs.declared.token.TokenKind.TheVariants as token
use Rattle.c_lex.specs.declared.token.Word.{Word as AWord}
use Rattle.c_lex.specs.declared.token.Word.TheVariants as w
use Rattle.c_lex.specs.declared.token.Mark.TheVariants as m
use Rattle.c_ast.specs.declared.declaration.Base.{Base}
use Rattle.c_ast.specs.declared.declaration.Base.TheBlock.{Plain, Typedef, Tagged', Enumerated'}
use Rattle.c_ast.specs.declared.declaration.Base.TheVariants as base
use Rattle.c_ast.specs.Input.{Input, kind, is_typedef}
use Rattle.c_grammar.specs.Grammar.{Specifiers, BaseRule, tag_word}
use Rattle.c_grammar.specs.Rules.{Rule, ◌⨾◌, Words, is_qualified_word, is_declaration_word, has_type_word}
use Rattle.parse_spec.specs.Steps.{Outcome, left, same_mark, sees, allows, words}
use Rattle.parse_spec.specs.Nested.{expr, declarator, specs}
use Rattle.parse_spec.specs.Places.{begins_by}
use Rattle.parse_spec.specs.Specifiers.{base_by, specifier_base, specifiers}
use Rattle.parse_complete.proofs.Declarators.{ends_specs, ends_no_word}
use Rattle.parse_complete.proofs.Keeps.{specifiers_keep, base_keeps, words_keep}
use Rattle.parse_complete.proofs.Steps.{word_takes, sees_by, sees_not}
use Rattle.parse_complete.proofs.Trees.{specs_with}
use Rattle.parse_complete.proofs.Words.{words_read}

-- no keyword of a structure, a union or an enumeration is allowed as it stands
pub record NoTags (allowed : AWord → Bool) : Type 0 where
  pub struct : allowed w.Struct ≡ false
  pub union : allowed w.Union ≡ false
  pub enum : allowed w.Enum ≡ false

pub qualified_tags : NoTags is_qualified_word
qualified_tags = record { struct = refl; union = refl; enum = refl }

pub declaration_tags : NoTags is_declaration_word
declaration_tags = record { struct = refl; union = refl; enum = refl }

abbrev pub IsSpecified : Base → List AWord → Type 0
IsSpecified b words = (allowed : AWord → Bool) → NoTags allowed → (s t : Input) → Specifiers allowed b (BaseRule b) words s t → ends_specs (kind t) ≡ true
    → (d : ℕ) → left s < d → specs d allowed s ≡ Some (specs_with words b, t)

pub specifiers_less : (allowed : AWord → Bool) (b : Base) (words : List AWord) (s t : Input) → Specifiers allowed b (BaseRule b) words s t → left t ≤ left s
specifiers_less allowed b words s t h = (specifiers_keep allowed b (BaseRule b) words (λ typed. base_keeps b typed)).keeps s t h

-- ---- with what specifiers begin

word_begins : (allowed : AWord → Bool) (typedef : Bool) (a : AWord) → allowed a ≡ true → begins_by allowed typedef (Some (token.Keyword a)) ≡ true
word_begins allowed typedef a may = rw may refl

keyword_begins : (allowed : AWord → Bool) (a : AWord) (rest : List AWord) (s t : Input) → Words allowed (a ∷ rest) s t →
    begins_by allowed (is_typedef s) (kind s) ≡ true
keyword_begins allowed a rest s t h = ap (begins_by allowed (is_typedef s)) h.1.0.1.0 ∙ word_begins allowed (is_typedef s) a h.1.0.0

or_true : (b : Bool) → (b || true) ≡ true
or_true true = refl
or_true false = refl

tag_begins_any : (allowed : AWord → Bool) (typedef union : Bool) → begins_by allowed typedef (Some (token.Keyword (tag_word union))) ≡ true
tag_begins_any allowed typedef true = or_true (allowed w.Union)
tag_begins_any allowed typedef false = or_true (allowed w.Struct)

base_begins : (allowed : AWord → Bool) (b : Base) (typed : Bool) (s t : Input) → b ≢ base.Plain → BaseRule b typed s t →
    begins_by allowed (is_typedef s) (kind s) ≡ true
base_begins allowed Plain typed s t ne h = absurd (ne refl)
base_begins allowed (Typedef n) true s t ne h = absurd h
base_begins allowed (Typedef n) false s t ne h = ap (begins_by allowed (is_typedef s)) h.1.1.0 ∙ h.0
base_begins allowed (Tagged' union tag all) typed s t ne h = ap (begins_by allowed (is_typedef s)) h.1.0.0 ∙ tag_begins_any allowed (is_typedef s) union
base_begins allowed (Enumerated' tag all) typed s t ne h = ap (begins_by allowed (is_typedef s)) h.1.0.0 ∙ or_true (allowed w.Enum)

abbrev Between : (AWord → Bool) → (Bool → Rule) → List AWord → Rule
Between allowed R words s t =
    (before : List AWord) × ((behind : List AWord) × ((words ≡ before ++ behind)
    × (Words allowed before ⨾ R (has_type_word before) ⨾ Words allowed behind) s t))

between_begins : (allowed : AWord → Bool) (b : Base) (before behind : List AWord) (s t : Input) → b ≢ base.Plain
    → (Words allowed before ⨾ BaseRule b (has_type_word before) ⨾ Words allowed behind) s t → begins_by allowed (is_typedef s) (kind s) ≡ true
between_begins allowed b [] behind s t ne h = subst (λ x. begins_by allowed (is_typedef x) (kind x) ≡ true) h.1.0
    (base_begins allowed b false h.0 h.1.1.0 ne h.1.1.1.0)
between_begins allowed b (a ∷ rest) behind s t ne h = keyword_begins allowed a rest s h.0 h.1.0

pub specs_begin : (allowed : AWord → Bool) (b : Base) (words : List AWord) (s t : Input) → Specifiers allowed b (BaseRule b) words s t →
    begins_by allowed (is_typedef s) (kind s) ≡ true
specs_begin allowed Plain [] s t h = absurd h
specs_begin allowed Plain (a ∷ rest) s t h = keyword_begins allowed a rest s h.0 h.1.0
specs_begin allowed (Typedef n) words s t h = between_begins allowed (Typedef n) h.0 h.1.0 s t (λ e. absurd (cc)) h.1.1.1
specs_begin allowed (Tagged' union tag all) words s t h = between_begins allowed (Tagged' union tag all) h.0 h.1.0 s t (λ e. absurd (cc)) h.1.1.1
specs_begin allowed (Enumerated' tag all) words s t h = between_begins allowed (Enumerated' tag all) h.0 h.1.0 s t (λ e. absurd (cc)) h.1.1.1

-- ---- specifiers as a whole

abbrev base_at : ℕ → Bool → Input → Outcome Base
base_at d typed s = specifier_base (expr d) (declarator d) (specs d) typed s

moved : (s y : Input) → y.tokens ≡ s.tokens → left y < left s → (y.at == s.at) ≡ false
unfolding left
moved s y same less =
    let e : length y.tokens.list ≡ length s.tokens.list = ap (λ x. length x.list) same in
    let ne : y.at ≢ s.at = λ at. omega (arith, at, e, less) in
    grind (arith, nat_tests, ne)

pub specified_from : (b : Base) (words : List AWord) →
    ((allowed : AWord → Bool) → NoTags allowed → (s t : Input) → Specifiers allowed b (BaseRule b) words s t → ends_specs (kind t) ≡ true
    → (d : ℕ) → left s ≤ d → specifiers (expr d) (declarator d) (specs d) allowed s ≡ Some (specs_with words b, t)) → IsSpecified b words
unfolding specs
specified_from b words f allowed tags s t h stop zero lt = absurd (omega arith)
specified_from b words f allowed tags s t h stop (suc d) lt = f allowed tags s t h stop d (omega arith)

all_read : (d : ℕ) (allowed : AWord → Bool) (before behind : List AWord) (b : Base) (s x y t : Input) → Words allowed before s x →
    allows allowed (kind x) ≡ false
    → base_at d (has_type_word before) x ≡ Some (b, y) → (y.at == s.at) ≡ false → Words allowed behind y t → allows allowed (kind t) ≡ false
    → specifiers (expr d) (declarator d) (specs d) allowed s ≡ Some (specs_with (before ++ behind) b, t)
unfolding specifiers
all_read d allowed before behind b s x y t h stop read new g stop2 =
    rw (words_read allowed before s x h stop, read, new, words_read allowed behind y t g stop2) refl

-- none but keywords

plain_by : (d : ℕ) (k : Option TokenKind) (typed : Bool) (s : Input) → ends_specs k ≡ true → (k ≡ Some token.Name → typed ≡ false → is_typedef s ≡ false)
    → base_by (expr d) (declarator d) (specs d) typed k s ≡ Some (base.Plain, s)
plain_by d (Some token.Name) true s stop known = refl
plain_by d (Some token.Name) false s stop known = rw (known refl refl) refl
plain_by d (Some (token.Keyword word)) typed s stop known = absurd (cc)
plain_by d _ typed s stop known = refl

plain_rule : (typed : Bool) (s t : Input) → BaseRule base.Plain typed s t → (t ≡ s) × (kind s ≡ Some token.Name → typed ≡ false → is_typedef s ≡ false)
plain_rule true s t h = (h, (λ _ e. absurd (cc)))
plain_rule false s t h = (h.0, (λ is _. h.1 is))

plain_base : (d : ℕ) (typed : Bool) (s t : Input) → BaseRule base.Plain typed s t → ends_specs (kind t) ≡ true → base_at d typed s ≡ Some (base.Plain, t)
unfolding specifier_base
plain_base d typed s t h stop =
    let p = plain_rule typed s t h in
    let here : ends_specs (kind s) ≡ true = ap (λ x. ends_specs (kind x)) (sym p.0) ∙ stop in
    plain_by d (kind s) typed s here p.1 ∙ ap (λ x. Some (base.Plain, x)) (sym p.0)

pub plain_found : (a : AWord) (rest : List AWord) → IsSpecified base.Plain (a ∷ rest)
plain_found a rest = specified_from base.Plain (a ∷ rest) (λ allowed tags s t h stop d le.
    let p = plain_rule (has_type_word (a ∷ rest)) h.0 t h.1.1 in
    let word = h.1.0.1.0.1 in
    let one = word_takes a s h.1.0.0 word in
    let more = (words_keep allowed rest).keeps h.1.0.0 h.0 h.1.0.1.1 in
    let same = (words_keep allowed (a ∷ rest)).tokens s h.0 h.1.0 in
    let free : allows allowed (kind h.0) ≡ false = ap (λ x. allows allowed (kind x)) (sym p.0) ∙ ends_no_word allowed (kind t) stop in
    let new : (t.at == s.at) ≡ false = subst (λ x. (x.at == s.at) ≡ false) (sym p.0) (moved s h.0 same (omega arith)) in
    all_read d allowed (a ∷ rest) [] base.Plain s h.0 t t h.1.0 free (plain_base d (has_type_word (a ∷ rest)) h.0 t h.1.1 stop) new refl
    (ends_no_word allowed (kind t) stop)
    ∙ ap (λ l. Some (specs_with l base.Plain, t)) (append-nil (a ∷ rest)))

-- a specifier that is no keyword, maybe with keywords round it

-- it is read where no opening brace follows, and takes a token
pub record IsBase (b : Base) : Type 0 where
  pub read : (typed : Bool) (s t : Input) → BaseRule b typed s t → sees m.OpenBrace t ≡ false → (d : ℕ) → left s ≤ d → base_at d typed s ≡ Some (b, t)
  pub less : (typed : Bool) (s t : Input) → BaseRule b typed s t → left t < left s
  pub free : (allowed : AWord → Bool) → NoTags allowed → (typed : Bool) (s t : Input) → BaseRule b typed s t → allows allowed (kind s) ≡ false

ends_no_brace : (t : Input) → ends_specs (kind t) ≡ true → sees m.OpenBrace t ≡ false
ends_no_brace t stop = sees_not m.OpenBrace t (λ e. absurd (let g = rw e at stop in cc))

behind_no_brace : (allowed : AWord → Bool) (behind : List AWord) (y t : Input) → Words allowed behind y t → ends_specs (kind t) ≡ true →
    sees m.OpenBrace y ≡ false
unfolding same_mark
behind_no_brace allowed [] y t h stop = ends_no_brace y (ap (λ x. ends_specs (kind x)) (sym h) ∙ stop)
behind_no_brace allowed (a ∷ rest) y t h stop = sees_by m.OpenBrace y _ h.1.0.1.0 refl

pub between_read : (b : Base) (words : List AWord) → IsBase b → (allowed : AWord → Bool) → NoTags allowed →
    (s t : Input) → Between allowed (BaseRule b) words s t
    → ends_specs (kind t) ≡ true → (d : ℕ) → left s ≤ d → specifiers (expr d) (declarator d) (specs d) allowed s ≡ Some (specs_with words b, t)
between_read b words c allowed tags s t (before, (behind, (all, (x, (h, (y, (g, k))))))) stop d le =
    let typed = has_type_word before in
    let p = (words_keep allowed before).keeps s x h in
    let q = c.less typed x y g in
    let same = (base_keeps b typed).tokens x y g ∙ (words_keep allowed before).tokens s x h in
    let read = c.read typed x y g (behind_no_brace allowed behind y t k stop) d (omega arith) in
    all_read d allowed before behind b s x y t h (c.free allowed tags typed x y g) read (moved s y same (omega arith)) k (ends_no_word allowed (kind t) stop)
    ∙ ap (λ l. Some (specs_with l b, t)) (sym all)
