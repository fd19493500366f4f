-- What a parser reads, over tokens that stay as they are: how that follows from its parts.
use Rattle.std.proofs.Common.{◌≡◌, Bool, true, false, Some, None, if◌then◌else◌, refl, subst, ◌∙◌}
use Rattle.c_lex.specs.TokenText.{TokenText}
use Rattle.c_ast.specs.Input.{Input}
use Rattle.parse_spec.specs.Scopes.{OnlyAdds}
use Rattle.parse_spec.specs.Steps.{
  Outcome,
  Parser,
  and_then,
  ◌>>=◌,
  ◌>>◌,
  pure,
  refuse,
  scoped_in,
  scoped,
  with_parameters,
  in_prototype,
  without_prototype,
  with_prototype_of,
  apart,
  prototype_in,
  prototype,
}

-- an outcome leaves these tokens, and what was read is such a value
abbrev pub Gives : {A : Type 0} → TokenText → (A → Type 0) → Outcome A → Type 0
Gives t P None = Unit {0}
Gives t P (Some p) = (p.1.tokens ≡ t) × P p.0

pub record Reads {A : Type 0} (t : TokenText) (P : A → Type 0) (p : Parser A) : Type 0 where
  pub reads : (i : Input) → i.tokens ≡ t → Gives t P (p i)

pub given : {A : Type 0} (t : TokenText) (P : A → Type 0) (o : Outcome A) (a : A) (j : Input) → Gives t P o → o ≡ Some (a, j) → (j.tokens ≡ t) × P a
given t P o a j h e = subst (Gives t P) e h

pub pure_reads : {A : Type 0} {t : TokenText} {P : A → Type 0} (a : A) → P a → Reads t P (pure a)
pure_reads a h = record { reads = λ i same. (same, h) }

pub refuse_reads : {A : Type 0} {t : TokenText} {P : A → Type 0} → Reads t P (let p : Parser A = refuse in p)
refuse_reads = record { reads = λ i same. tt }

pub bind_gives : {A B : Type 0} {t : TokenText} {P : A → Type 0} {Q : B → Type 0} (o : Outcome A) (f : A → Parser B) → Gives t P o
    → ((a : A) → P a → Reads t Q (f a)) → Gives t Q (and_then o f)
bind_gives None f g h = tt
bind_gives (Some p) f g h = (h p.0 g.1).reads p.1 g.0

pub bind_reads : {A B : Type 0} {t : TokenText} {P : A → Type 0} {Q : B → Type 0} (p : Parser A) (f : A → Parser B) → Reads t P p
    → ((a : A) → P a → Reads t Q (f a)) → Reads t Q (p >>= f)
bind_reads p f g h = record { reads = λ i same. bind_gives (p i) f (g.reads i same) h }

skip_case : {A B : Type 0} {t : TokenText} {Q : B → Type 0} (p : Parser A) (f : A → Parser B) (i : Input) (o : Outcome A) → OnlyAdds p → p i ≡ o
    → i.tokens ≡ t → ((a : A) → Reads t Q (f a)) → Gives t Q (and_then o f)
skip_case p f i None g e same h = tt
skip_case p f i (Some q) g e same h = (h q.0).reads q.1 ((g.adds i q.1 q.0 e).tokens ∙ same)

-- behind a parser of whose value nothing is asked
pub skip_reads : {A B : Type 0} {t : TokenText} {Q : B → Type 0} (p : Parser A) (f : A → Parser B) → OnlyAdds p → ((a : A) → Reads t Q (f a))
    → Reads t Q (p >>= f)
skip_reads p f g h = record { reads = λ i same. skip_case p f i (p i) g refl same h }

pub then_reads : {A B : Type 0} {t : TokenText} {Q : B → Type 0} (p : Parser A) (q : Parser B) → OnlyAdds p → Reads t Q q → Reads t Q (p >> q)
then_reads p q g h = skip_reads p (λ _. q) g (λ _. h)

pub if_reads : {A : Type 0} {t : TokenText} {P : A → Type 0} (c : Bool) (p q : Parser A) → Reads t P p → Reads t P q
    → Reads t P (if c then p else q)
if_reads true p q g h = g
if_reads false p q g h = h

-- a parser that looks at the input first
pub here_reads : {A : Type 0} {t : TokenText} {P : A → Type 0} (f : Input → Parser A) → ((i : Input) → Reads t P (f i)) → Reads t P (λ i. f i i)
here_reads f g = record { reads = λ i same. (g i).reads i same }

scoped_gives : {A : Type 0} (t : TokenText) (P : A → Type 0) (i : Input) (o : Outcome A) → Gives t P o → Gives t P (scoped_in i o)
scoped_gives t P i None g = tt
scoped_gives t P i (Some p) g = g

pub scoped_reads : {A : Type 0} {t : TokenText} {P : A → Type 0} (p : Parser A) → Reads t P p → Reads t P (scoped p)
scoped_reads p g = record { reads = λ i same. scoped_gives _ _ i (p i) (g.reads i same) }

pub in_prototype_reads : {A : Type 0} {t : TokenText} {P : A → Type 0} (p : Parser A) → Reads t P p → Reads t P (in_prototype p)
in_prototype_reads p g = record { reads = λ i same. scoped_gives _ _ i (p (with_parameters i)) (g.reads (with_parameters i) same) }

apart_gives : {A : Type 0} (t : TokenText) (P : A → Type 0) (i : Input) (o : Outcome A) → Gives t P o → Gives t P (with_prototype_of i o)
apart_gives t P i None g = tt
apart_gives t P i (Some p) g = g

pub apart_reads : {A : Type 0} {t : TokenText} {P : A → Type 0} (p : Parser A) → Reads t P p → Reads t P (apart p)
apart_reads p g = record { reads = λ i same. apart_gives _ _ i (p (without_prototype i)) (g.reads (without_prototype i) same) }

prototype_gives : {A : Type 0} (t : TokenText) (P : A → Type 0) (own : Bool) (i : Input) (o : Outcome A) → Gives t P o
    → Gives t P (prototype_in own i o)
prototype_gives t P own i None g = tt
prototype_gives t P own i (Some p) g = g

pub prototype_reads : {A : Type 0} {t : TokenText} {P : A → Type 0} (own : Bool) (p : Parser A) → Reads t P p → Reads t P (prototype own p)
prototype_reads own p g = record { reads = λ i same. prototype_gives _ _ own i (p (without_prototype i)) (g.reads (without_prototype i) same) }
