-- What holds of an outcome, if there is one: how that follows from the parts of a parser.
use Rattle.std.proofs.Common.{◌≡◌, ℕ, Bool, true, false, if◌then◌else◌, length, take, drop, ◌++◌, Option, Some, None, refl, ap, append_assoc, rules, ◌∙◌}
use Rattle.std.proofs.Math.Seq.{take-append_seam}
use denote.Enum.Bare.{same_true, true_same}
use Rattle.c_lex.specs.declared.token.TokenKind.{TokenKind}
use Rattle.c_lex.specs.declared.token.TokenKind.TheVariants as token
use Rattle.c_lex.specs.declared.token.Word.{Word as AWord}
use Rattle.c_lex.specs.declared.token.Mark.{Mark as AMark}
use Rattle.c_lex.specs.declared.token.Mark.TheVariants as m
use Rattle.c_lex.specs.contracts.token.Mark.{the_type as mark_type}
use Rattle.c_lex.specs.contracts.token.Word.{the_type as word_type}
use Rattle.c_ast.specs.Input.{Input, kind, next, back_to}
use Rattle.c_grammar.specs.Rules.{Rule, ◌⨾◌, Mark, Word, Declares, Scoped, Prototype, Apart}
use Rattle.parse_spec.specs.Scopes.{Adds, OnlyAdds}
use Rattle.parse_spec.specs.Steps.{
  Outcome,
  Parser,
  and_then,
  same_mark,
  same_word,
  is_mark,
  is_word,
  sees,
  sees_word,
  after,
  after_word,
  expect,
  expect_word,
  mark_of,
  declare,
  scoped,
  scoped_in,
  closed_to,
  in_prototype,
  with_parameters,
  without_prototype,
  with_prototype_of,
  apart,
  prototype_in,
  prototype,
}

-- this holds of what is read and of what is left then
abbrev pub Held : {A : Type 0} → (A → Input → Type 0) → Outcome A → Type 0
Held Q None = Unit {0}
Held Q (Some p) = Q p.0 p.1

pub record Holds {A : Type 0} (Q : A → Input → Type 0) (o : Outcome A) : Type 0 where
  pub held : Held Q o

pub holds : {A : Type 0} {Q : A → Input → Type 0} {a : A} {j : Input} → Q a j → Holds Q (Some (a, j))
holds h = record { held = h }

pub refused : {A : Type 0} {Q : A → Input → Type 0} → Holds Q None
refused = record { held = tt }

pub bind_holds : {A B : Type 0} {P : A → Input → Type 0} {Q : B → Input → Type 0} (o : Outcome A) (f : A → Parser B) → Holds P o
    → ((a : A) (j : Input) → P a j → Holds Q (f a j)) → Holds Q (and_then o f)
bind_holds None f h g = refused
bind_holds (Some p) f h g = g p.0 p.1 h.held

pub weaken : {A : Type 0} {P Q : A → Input → Type 0} (o : Outcome A) → Holds P o → ((a : A) (j : Input) → P a j → Q a j) → Holds Q o
weaken None h g = refused
weaken (Some p) h g = holds (g p.0 p.1 h.held)

pub if_holds : {A : Type 0} {Q : A → Input → Type 0} (c : Bool) (p q : Parser A) (i : Input) → (c ≡ true → Holds Q (p i)) → (c ≡ false → Holds Q (q i))
    → Holds Q ((if c then p else q) i)
if_holds true p q i f g = f refl
if_holds false p q i f g = g refl

-- ---- single tokens

pub mark_is : (mark : AMark) (k : Option TokenKind) → is_mark mark k ≡ true → k ≡ Some (token.Punct mark)
unfolding same_mark
mark_is mark (Some (token.Punct found)) e = ap (λ x. Some (token.Punct x)) (same_true mark_type (search rules) found mark e)
mark_is mark _ e = absurd (cc)

pub word_is : (word : AWord) (k : Option TokenKind) → is_word word k ≡ true → k ≡ Some (token.Keyword word)
unfolding same_word
word_is word (Some (token.Keyword found)) e = ap (λ x. Some (token.Keyword x)) (same_true word_type (search rules) found word e)
word_is word _ e = absurd (cc)

pub sees_is : (mark : AMark) (i : Input) → sees mark i ≡ true → kind i ≡ Some (token.Punct mark)
unfolding sees
sees_is mark i e = mark_is mark (kind i) e

pub sees_word_is : (word : AWord) (i : Input) → sees_word word i ≡ true → kind i ≡ Some (token.Keyword word)
unfolding sees_word
sees_word_is word i e = word_is word (kind i) e

pub sees_of : (mark : AMark) (i : Input) → kind i ≡ Some (token.Punct mark) → sees mark i ≡ true
unfolding sees same_mark
sees_of mark i e = ap (is_mark mark) e ∙ true_same mark_type mark mark refl

pub sees_word_of : (word : AWord) (i : Input) → kind i ≡ Some (token.Keyword word) → sees_word word i ≡ true
unfolding sees_word same_word
sees_word_of word i e = ap (is_word word) e ∙ true_same word_type word word refl

pub of_mark : (k : Option TokenKind) (mark : AMark) → mark_of k ≡ Some mark → k ≡ Some (token.Punct mark)
of_mark (Some (token.Punct found)) mark e = ap (λ x. elim x as (λ _. Option TokenKind) [ None ↦ None | Some y ↦ Some (token.Punct y) ]) e
of_mark _ mark e = absurd (cc)

eat_case : {A : Type 0} {Q : A → Input → Type 0} (c : Bool) (p q : Parser A) (i : Input) → (c ≡ true → Holds Q (p (next i))) → (c ≡ false → Holds Q (q i))
    → Holds Q ((if c then p else q) (if c then next i else i))
eat_case true p q i f g = f refl
eat_case false p q i f g = g refl

eat_by_case : {A : Type 0} {Q : A → Input → Type 0} (c : Bool) (f : Bool → Parser A) (i : Input) → (c ≡ true → Holds Q (f true (next i))) →
    (c ≡ false → Holds Q (f false i))
    → Holds Q (f c (if c then next i else i))
eat_by_case true f i g h = g refl
eat_by_case false f i g h = h refl

-- a test whether a punctuator comes next, which is taken then
pub eat_holds : {A : Type 0} {Q : A → Input → Type 0} (mark : AMark) (p q : Parser A) (i : Input) → (kind i ≡ Some (token.Punct mark) → Holds Q (p (next i)))
    → (sees mark i ≡ false → Holds Q (q i)) → Holds Q ((if sees mark i then p else q) (after mark i))
unfolding after
eat_holds mark p q i f g = eat_case (sees mark i) p q i (λ e. f (sees_is mark i e)) g

pub eat_word_holds : {A : Type 0} {Q : A → Input → Type 0} (word : AWord) (p q : Parser A) (i : Input) →
    (kind i ≡ Some (token.Keyword word) → Holds Q (p (next i)))
    → (sees_word word i ≡ false → Holds Q (q i)) → Holds Q ((if sees_word word i then p else q) (after_word word i))
unfolding after_word
eat_word_holds word p q i f g = eat_case (sees_word word i) p q i (λ e. f (sees_word_is word i e)) g

-- ..where what comes next is read by the answer
pub eat_by_holds : {A : Type 0} {Q : A → Input → Type 0} (mark : AMark) (f : Bool → Parser A) (i : Input) →
    (kind i ≡ Some (token.Punct mark) → Holds Q (f true (next i)))
    → (sees mark i ≡ false → Holds Q (f false i)) → Holds Q (f (sees mark i) (after mark i))
unfolding after
eat_by_holds mark f i g h = eat_by_case (sees mark i) f i (λ e. g (sees_is mark i e)) h

expect_case : (Q : Unit {0} → Input → Type 0) (c : Bool) (i : Input) → (c ≡ true → Q tt (next i)) → Holds Q (if c then Some (tt, next i) else None)
expect_case Q true i f = holds (f refl)
expect_case Q false i f = refused

pub expect_holds : (mark : AMark) (i : Input) → Holds (λ _ j. Mark mark i j) (expect mark i)
unfolding expect
expect_holds mark i = expect_case (λ _ j. Mark mark i j) (sees mark i) i (λ e. (sees_is mark i e, refl))

pub expect_word_holds : (word : AWord) (i : Input) → Holds (λ _ j. Word word i j) (expect_word word i)
unfolding expect_word
expect_word_holds word i = expect_case (λ _ j. Word word i j) (sees_word word i) i (λ e. (sees_word_is word i e, refl))

-- ---- scopes

pub declares_is : (typedef : Bool) (n : Option ℕ) (i : Input) → Declares typedef n i (declare typedef n i)
declares_is typedef None i = refl
declares_is typedef (Some n) i = refl

-- what was declared since is gone again
pub closed_is : (s i : Input) → Adds s i → closed_to s i ≡ back_to s i
unfolding back_to
closed_is s i g = ap (λ n. record i { names = n }) (ap (take (length s.names)) g.names ∙ take-append_seam s.names g.more)

also_case : {A : Type 0} {Q : A → Input → Type 0} (p : Parser A) (i : Input) (o : Outcome A) → OnlyAdds p → p i ≡ o → Holds Q o
    → Holds (λ a j. Adds i j × Q a j) o
also_case p i None g e h = refused
also_case p i (Some q) g e h = holds (g.adds i q.1 q.0 e, h.held)

-- with what is left of the tokens and the names
pub also_adds : {A : Type 0} {Q : A → Input → Type 0} (p : Parser A) (i : Input) → OnlyAdds p → Holds Q (p i) → Holds (λ a j. Adds i j × Q a j) (p i)
also_adds p i g h = also_case p i (p i) g refl h

scoped_out : {A : Type 0} (R : A → Rule) (i : Input) (o : Outcome A) → Holds (λ a j. Adds i j × R a i j) o → Holds (λ a j. Scoped (R a) i j) (scoped_in i o)
scoped_out R i None h = refused
scoped_out R i (Some q) h = holds (q.1, (h.held.1, closed_is i q.1 h.held.0))

pub scoped_holds : {A : Type 0} (R : A → Rule) (p : Parser A) (i : Input) → OnlyAdds p → Holds (λ a j. R a i j) (p i) →
    Holds (λ a j. Scoped (R a) i j) (scoped p i)
scoped_holds R p i g h = scoped_out R i (p i) (also_adds p i g h)

apart_out : {A : Type 0} (R : A → Rule) (i : Input) (o : Outcome A) → Holds (λ a j. R a (without_prototype i) j) o
    → Holds (λ a j. Apart (R a) i j) (with_prototype_of i o)
apart_out R i None h = refused
apart_out R i (Some q) h = holds (q.1, (h.held, refl))

pub apart_holds : {A : Type 0} (R : A → Rule) (p : Parser A) (i : Input) → Holds (λ a j. R a (without_prototype i) j) (p (without_prototype i))
    → Holds (λ a j. Apart (R a) i j) (apart p i)
apart_holds R p i h = apart_out R i (p (without_prototype i)) h

prototype_out : {A : Type 0} (own : Bool) (R : A → Rule) (i : Input) (o : Outcome A) →
    Holds (λ a j. Adds (without_prototype i) j × R a (without_prototype i) j) o
    → Holds (λ a j. Prototype own (R a) i j) (prototype_in own i o)
prototype_out own R i None h = refused
prototype_out own R i (Some q) h = holds (
  q.1,
  (
    h.held.1,
    ap (λ n. record q.1 { names = n; prototype = if own then drop (length i.names) q.1.names else i.prototype })
        (ap (take (length i.names)) h.held.0.names ∙ take-append_seam i.names h.held.0.more),
  ),
)

pub prototype_holds : {A : Type 0} (own : Bool) (R : A → Rule) (p : Parser A) (i : Input) → OnlyAdds p
    → Holds (λ a j. R a (without_prototype i) j) (p (without_prototype i)) → Holds (λ a j. Prototype own (R a) i j) (prototype own p i)
prototype_holds own R p i g h = prototype_out own R i (p (without_prototype i)) (also_adds p (without_prototype i) g h)

-- a scope, and the brace that closes it: the parser reads the brace before it closes the scope
abbrev pub Braced : Rule → Input → Rule
Braced R start i t = (x : Input) × (((m : Input) × (R start m × (x ≡ back_to i m))) × Mark m.CloseBrace x t)

brace_is : (i x j : Input) → Adds i j → Mark m.CloseBrace x j → Mark m.CloseBrace (back_to i x) (closed_to i j)
unfolding kind next back_to
brace_is i x j g (is, e) = (is, closed_is i j g ∙ ap (back_to i) e)

brace_out : {A : Type 0} (R : A → Rule) (i start : Input) (o : Outcome A) → Holds (λ a j. Adds i j × (R a ⨾ Mark m.CloseBrace) start j) o
    → Holds (λ a j. Braced (R a) start i j) (scoped_in i o)
brace_out R i start None h = refused
brace_out R i start (Some q) h =
    holds (back_to i h.held.1.0, ((h.held.1.0, (h.held.1.1.0, refl)), brace_is i h.held.1.0 q.1 h.held.0 h.held.1.1.1))

pub block_holds : {A : Type 0} (R : A → Rule) (p : Parser A) (i : Input) → OnlyAdds p → Holds (λ a j. (R a ⨾ Mark m.CloseBrace) i j) (p i)
    → Holds (λ a j. Braced (R a) i i j) (scoped p i)
block_holds R p i g h = brace_out R i i (p i) (also_adds p i g h)

with_adds : (i j : Input) → Adds (with_parameters i) j → Adds i j
with_adds i j g = record { tokens = g.tokens; more = i.prototype ++ g.more; names = g.names ∙ append_assoc i.names i.prototype g.more }

pub body_holds : {A : Type 0} (R : A → Rule) (p : Parser A) (i : Input) → OnlyAdds p →
    Holds (λ a j. (R a ⨾ Mark m.CloseBrace) (with_parameters i) j) (p (with_parameters i))
    → Holds (λ a j. Braced (R a) (with_parameters i) i j) (in_prototype p i)
body_holds R p i g h = brace_out R i (with_parameters i) (p (with_parameters i))
    (weaken _ (also_adds p (with_parameters i) g h) (λ a j k. (with_adds i j k.0, k.1)))
