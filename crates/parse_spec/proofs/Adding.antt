-- Parsers only add declarations: how that follows from their parts.
use Rattle.std.proofs.Common.{
  ◌≡◌,
  ℕ,
  Bool,
  true,
  false,
  [],
  ◌∷◌,
  ◌++◌,
  take,
  length,
  Option,
  Some,
  None,
  if◌then◌else◌,
  refl,
  sym,
  ap,
  subst,
  append_assoc,
  append-nil,
  ◌∙◌,
  rules,
}
use Rattle.std.proofs.Math.Seq.{take-append_seam}
use Rattle.c_lex.specs.declared.token.Word.{Word as AWord}
use Rattle.c_lex.specs.declared.token.Mark.{Mark as AMark}
use Rattle.c_ast.specs.Input.{Input, next, declared}
use Rattle.parse_spec.specs.Scopes.{Adds, OnlyAdds, Ends}
use Rattle.parse_spec.specs.Units.{afresh}
use Rattle.parse_spec.specs.Steps.{
  Outcome,
  Parser,
  and_then,
  ◌>>=◌,
  ◌>>◌,
  pure,
  refuse,
  take_token,
  eat,
  eat_word,
  expect,
  expect_word,
  sees,
  sees_word,
  after,
  after_word,
  declare,
  declares,
  closed_to,
  scoped_in,
  scoped,
  with_parameters,
  in_prototype,
  without_prototype,
  prototype_back,
  with_prototype_of,
  apart,
  parameters_left,
  prototype_in,
  prototype,
}

pub stays : (i : Input) → Adds i i
stays i = record { tokens = refl; more = []; names = search rules }

pub goes_on : (i j k : Input) → Adds i j → Adds j k → Adds i k
goes_on i j k p q = record {
  tokens = q.tokens ∙ p.tokens;
  more = p.more ++ q.more;
  names =
      q.names ∙ ap (λ l. l ++ q.more) p.names ∙ append_assoc i.names p.more q.more;
}

subst_input : (i j : Input) → i ≡ j → Adds i j
subst_input i j e = let P : Input → Type 0 = λ k. Adds i k in subst P e (stays i)

input_in : {A : Type 0} → Input → Outcome A → Input
input_in d (Some p) = p.1
input_in d None = d

same_input : {A : Type 0} (x a : A) (i j : Input) → (let o : Outcome A = Some (x, i) in o) ≡ Some (a, j) → i ≡ j
unfolding input_in
same_input x a i j h = ap (input_in i) h

pub pure_adds : {A : Type 0} (a : A) → OnlyAdds (pure a)
pure_adds a = record { adds = λ i j b h. subst_input i j (same_input a b i j h) }

bind_case : {A B : Type 0} (p : Parser A) (f : A → Parser B) (i j : Input) (b : B) (o : Outcome A) → OnlyAdds p → ((a : A) → OnlyAdds (f a))
    → p i ≡ o → and_then o f ≡ Some (b, j) → Adds i j
bind_case p f i j b None gp gf e h = absurd (cc)
bind_case p f i j b (Some q) gp gf e h = goes_on i q.1 j (gp.adds i q.1 q.0 e) ((gf q.0).adds q.1 j b h)

pub bind_adds : {A B : Type 0} (p : Parser A) (f : A → Parser B) → OnlyAdds p → ((a : A) → OnlyAdds (f a)) → OnlyAdds (p >>= f)
bind_adds p f gp gf = record { adds = λ i j b h. bind_case p f i j b (p i) gp gf refl h }

pub if_adds : {A : Type 0} (c : Bool) (p q : Parser A) → OnlyAdds p → OnlyAdds q → OnlyAdds (if c then p else q)
if_adds true p q gp gq = gp
if_adds false p q gp gq = gq

-- a parser that looks at the input first
pub here_adds : {A : Type 0} (f : Input → Parser A) → ((i : Input) → OnlyAdds (f i)) → OnlyAdds (λ i. f i i)
here_adds f g = record { adds = λ i j a h. (g i).adds i j a h }

pub step_adds : (i : Input) → Adds i (next i)
unfolding next
step_adds i = record { tokens = refl; more = []; names = search rules }

step_to : (i j : Input) → next i ≡ j → Adds i j
step_to i j e = let P : Input → Type 0 = λ k. Adds i k in subst P e (step_adds i)

pub take_adds : OnlyAdds take_token
take_adds = record { adds = λ i j a h. step_to i j (same_input tt a (next i) j h) }

after_case : (i j : Input) (c : Bool) → (if c then next i else i) ≡ j → Adds i j
after_case i j true e = step_to i j e
after_case i j false e = subst_input i j e

expect_case : (i j : Input) (a : Unit {0}) (c : Bool) → (let o : Outcome (Unit {0}) = if c then Some (tt, next i) else None in o) ≡ Some (a, j) → Adds i j
expect_case i j a true h = step_to i j (same_input tt a (next i) j h)
expect_case i j a false h = absurd (cc)

pub eat_adds : (mark : AMark) → OnlyAdds (eat mark)
unfolding after
eat_adds mark = record { adds = λ i j a h. after_case i j (sees mark i) (same_input (sees mark i) a (after mark i) j h) }

pub expect_adds : (mark : AMark) → OnlyAdds (expect mark)
unfolding expect
expect_adds mark = record { adds = λ i j a h. expect_case i j a (sees mark i) h }

pub eat_word_adds : (word : AWord) → OnlyAdds (eat_word word)
unfolding after_word
eat_word_adds word = record { adds = λ i j a h. after_case i j (sees_word word i) (same_input (sees_word word i) a (after_word word i) j h) }

pub expect_word_adds : (word : AWord) → OnlyAdds (expect_word word)
unfolding expect_word
expect_word_adds word = record { adds = λ i j a h. expect_case i j a (sees_word word i) h }

pub refuse_adds : {A : Type 0} → OnlyAdds (let p : Parser A = refuse in p)
refuse_adds = record { adds = λ i j a h. absurd (cc) }

-- a value that depends on the input, and the next token
pub read_adds : {A : Type 0} (x : Input → A) → OnlyAdds (λ i. Some (x i, next i))
read_adds x = record { adds = λ i j a h. step_to i j (same_input (x i) a (next i) j h) }

pub then_adds : {A B : Type 0} (p : Parser A) (q : Parser B) → OnlyAdds p → OnlyAdds q → OnlyAdds (p >> q)
then_adds p q gp gq = bind_adds p (λ _. q) gp (λ _. gq)

declared_adds : (n : ℕ) (typedef : Bool) (i : Input) → Adds i (declared n typedef i)
unfolding declared
declared_adds n typedef i = record { tokens = refl; more = (n, typedef) ∷ []; names = refl }

declare_adds : (typedef : Bool) (name : Option ℕ) (i j : Input) → declare typedef name i ≡ j → Adds i j
declare_adds typedef None i j e = subst_input i j e
declare_adds typedef (Some n) i j e = let P : Input → Type 0 = λ k. Adds i k in subst P e (declared_adds n typedef i)

pub declares_adds : (typedef : Bool) (name : Option ℕ) → OnlyAdds (declares typedef name)
declares_adds typedef name = record { adds = λ i j a h. declare_adds typedef name i j (same_input tt a (declare typedef name i) j h) }

-- what is declared inside a scope is gone behind it
closed_is : (outer i : Input) → Adds outer i → (closed_to outer i).names ≡ outer.names
closed_is outer i p = ap (take (length outer.names)) p.names ∙ take-append_seam outer.names p.more

scoped_case : {A : Type 0} (p : Parser A) (outer start j : Input) (a : A) (o : Outcome A) → OnlyAdds p → Adds outer start → p start ≡ o
    → scoped_in outer o ≡ Some (a, j) → Ends outer j
scoped_case p outer start j a None gp g e h = absurd (cc)
scoped_case p outer start j a (Some q) gp g e h =
    let whole = goes_on outer start q.1 g (gp.adds start q.1 q.0 e) in
    let P : Input → Type 0 = λ k. Ends outer k in
    subst P (same_input q.0 a (closed_to outer q.1) j h) (record { tokens = whole.tokens; names = closed_is outer q.1 whole })

ends_adds : (i j : Input) → Ends i j → Adds i j
ends_adds i j p = record { tokens = p.tokens; more = []; names = p.names ∙ sym (append-nil i.names) }

pub scoped_ends : {A : Type 0} (p : Parser A) → OnlyAdds p → (i j : Input) (a : A) → scoped p i ≡ Some (a, j) → Ends i j
scoped_ends p gp i j a h = scoped_case p i i j a (p i) gp (stays i) refl h

pub scoped_adds : {A : Type 0} (p : Parser A) → OnlyAdds p → OnlyAdds (scoped p)
scoped_adds p gp = record { adds = λ i j a h. ends_adds i j (scoped_ends p gp i j a h) }

pub in_prototype_adds : {A : Type 0} (p : Parser A) → OnlyAdds p → OnlyAdds (in_prototype p)
in_prototype_adds p gp = record {
  adds = λ i j a h.
      ends_adds i j (scoped_case p i (with_parameters i) j a (p (with_parameters i)) gp (record { tokens = refl; more = i.prototype; names = refl }) refl h);
}

without_adds : (i : Input) → Adds i (without_prototype i)
without_adds i = record { tokens = refl; more = []; names = sym (append-nil i.names) }

pub afresh_adds : OnlyAdds afresh
afresh_adds = record { adds = λ i j a h. let P : Input → Type 0 = λ k. Adds i k in subst P (same_input tt a (without_prototype i) j h) (without_adds i) }

apart_case : {A : Type 0} (p : Parser A) (i j : Input) (a : A) (o : Outcome A) → OnlyAdds p → p (without_prototype i) ≡ o
    → with_prototype_of i o ≡ Some (a, j) → Adds i j
apart_case p i j a None gp e h = absurd (cc)
apart_case p i j a (Some q) gp e h =
    let inner = gp.adds (without_prototype i) q.1 q.0 e in
    let P : Input → Type 0 = λ k. Adds i k in
    subst P (same_input q.0 a (prototype_back i q.1) j h) (record { tokens = inner.tokens; more = inner.more; names = inner.names })

pub apart_adds : {A : Type 0} (p : Parser A) → OnlyAdds p → OnlyAdds (apart p)
apart_adds p gp = record { adds = λ i j a h. apart_case p i j a (p (without_prototype i)) gp refl h }

prototype_case : {A : Type 0} (own : Bool) (p : Parser A) (i j : Input) (a : A) (o : Outcome A) → OnlyAdds p → p (without_prototype i) ≡ o
    → prototype_in own i o ≡ Some (a, j) → Adds i j
prototype_case own p i j a None gp e h = absurd (cc)
prototype_case own p i j a (Some q) gp e h =
    let inner = gp.adds (without_prototype i) q.1 q.0 e in
    let P : Input → Type 0 = λ k. Adds i k in
    subst P (same_input q.0 a (parameters_left own i q.1) j h)
    (record {
      tokens = inner.tokens;
      more = [];
      names = ap (take (length i.names)) inner.names ∙ take-append_seam i.names inner.more ∙ sym
          (append-nil i.names);
    })

pub prototype_adds : {A : Type 0} (own : Bool) (p : Parser A) → OnlyAdds p → OnlyAdds (prototype own p)
prototype_adds own p gp = record { adds = λ i j a h. prototype_case own p i j a (p (without_prototype i)) gp refl h }
