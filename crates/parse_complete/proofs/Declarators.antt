-- What reading finds of a declarator that is spelled, bare or in parentheses.
use Rattle.std.proofs.Common.{
  ◌≡◌,
  ◌≢◌,
  ℕ,
  zero,
  suc,
  ◌<◌,
  ◌≤◌,
  Bool,
  true,
  false,
  ◌⊎◌,
  inl,
  inr,
  ⊎_elim,
  List,
  Option,
  Some,
  None,
  refl,
  sym,
  ap,
  ◌∙◌,
  subst,
  arith,
}
use Rattle.c_lex.specs.declared.token.TokenKind.{TokenKind}
use Rattle.c_lex.specs.declared.token.TokenKind.TheVariants as token
use Rattle.c_lex.specs.declared.token.Word.{Word as AWord}
use Rattle.c_lex.specs.declared.token.Mark.TheVariants as m
use Rattle.c_ast.specs.declared.declaration.Base.TheBlock.{Ident}
use Rattle.c_ast.specs.declared.declaration.Declarator.{Declarator}
use Rattle.c_ast.specs.declared.declaration.Declarator.TheVariants as decl
use Rattle.c_ast.specs.Input.{Input, kind, next, is_typedef}
use Rattle.c_grammar.specs.Grammar.{Mode, Named, Abstract, Either, HasName, NoParameters, WithinIn, StarMayStand, DeclaratorOperand, DeclaratorRule}
use Rattle.c_grammar.specs.Rules.{is_qualifier}
use Rattle.parse_spec.specs.Steps.{Outcome, and_then, left, turns, same_mark, sees, allows}
use Rattle.parse_spec.specs.Nested.{expr, declarator, specs}
use Rattle.parse_spec.specs.Places.{opens_parameters, opens_by, opens_suffix}
use Rattle.parse_spec.specs.Declarators.{nameless, named, one_suffix, suffixes_from, suffixes, nested, innermost_by, innermost, pointed, one_declarator}
use Rattle.parse_sound.proofs.Holding.{sees_of}
use Rattle.parse_complete.proofs.Keeps.{words_keep, declarator_operand_keeps, declarator_keeps}
use Rattle.parse_complete.proofs.Steps.{mark_takes, expect_of, eat_yes, eat_no, sees_by, sees_not}
use Rattle.parse_complete.proofs.Trees.{pointer, array, array_of, function, pointer_is}
use Rattle.parse_complete.proofs.Words.{words_read}

-- a punctuator that no declarator begins or goes on with
abbrev pub stops : Option TokenKind → Bool
stops (Some (token.Punct m.OpenParen)) = false
stops (Some (token.Punct m.OpenBracket)) = false
stops (Some (token.Punct m.Star)) = false
stops (Some (token.Punct mark)) = true
stops _ = false

-- a token that no specifiers go on with
abbrev pub ends_specs : Option TokenKind → Bool
ends_specs (Some token.Name) = true
ends_specs (Some (token.Punct m.OpenBrace)) = false
ends_specs (Some (token.Punct mark)) = true
ends_specs _ = false

stops_no_suffix : (k : Option TokenKind) → stops k ≡ true → opens_suffix k ≡ false
stops_no_suffix (Some (token.Punct m.OpenParen)) h = absurd (cc)
stops_no_suffix (Some (token.Punct m.OpenBracket)) h = absurd (cc)
stops_no_suffix _ h = refl

stops_no_star : (k : Option TokenKind) → stops k ≡ true → k ≢ Some (token.Punct m.Star)
stops_no_star k h e = let g = rw e at h in cc

stops_no_word : (allowed : AWord → Bool) (k : Option TokenKind) → stops k ≡ true → allows allowed k ≡ false
stops_no_word allowed (Some (token.Keyword word)) h = absurd (cc)
stops_no_word allowed _ h = refl

pub ends_no_word : (allowed : AWord → Bool) (k : Option TokenKind) → ends_specs k ≡ true → allows allowed k ≡ false
ends_no_word allowed (Some (token.Keyword word)) h = absurd (cc)
ends_no_word allowed _ h = refl

module _ (d : ℕ) where
  abbrev SuffixTo : Declarator → Input → Declarator → Input → Type 0
  SuffixTo e t f t2 = (n : ℕ) → left t < n → suffixes_from (expr d) (declarator d) (specs d) n e t ≡ Some (f, t2)

  abbrev at_innermost : Mode → Input → Outcome Declarator
  at_innermost mode s = innermost (expr d) (declarator d) (specs d) mode s

  abbrev chain_of : Mode → Input → Outcome Declarator
  chain_of mode s = and_then (at_innermost mode s) (λ e. suffixes (expr d) (declarator d) (specs d) e)

  -- the token is no star, and what begins here is f
  pub record Chains (mode : Mode) (s : Input) (f : Declarator) (t2 : Input) : Type 0 where
    pub plain : sees m.Star s ≡ false
    pub gives : chain_of mode s ≡ Some (f, t2)

  -- an empty declarator is read here
  pub record Empty (mode : Mode) (s : Input) : Type 0 where
    pub plain : sees m.Star s ≡ false
    pub inner : at_innermost mode s ≡ Some (decl.Ident None, s)

  suffix_stop : (e : Declarator) (t : Input) → opens_suffix (kind t) ≡ false → SuffixTo e t e t
  unfolding suffixes_from
  suffix_stop e t h zero lt = absurd (omega arith)
  suffix_stop e t h (suc n) lt = rw h refl

  pub suffix_step : (e : Declarator) (i : Input) (e2 : Declarator) (t : Input) (f : Declarator) (t2 : Input) → opens_suffix (kind i) ≡ true
      → one_suffix (expr d) (declarator d) (specs d) e i ≡ Some (e2, t) → left t < left i → SuffixTo e2 t f t2 → SuffixTo e i f t2
  unfolding suffixes_from
  suffix_step e i e2 t f t2 h p shorter go zero lt = absurd (omega arith)
  suffix_step e i e2 t f t2 h p shorter go (suc n) lt = rw (h, p) (go n (omega arith))

  pub chain_from : (mode : Mode) (s : Input) (e : Declarator) (t : Input) (f : Declarator) (t2 : Input) → at_innermost mode s ≡ Some (e, t) → SuffixTo e t f t2
      → chain_of mode s ≡ Some (f, t2)
  unfolding suffixes
  chain_from mode s e t f t2 p go = rw p (go (turns t) (omega arith))

  empty_gives : (mode : Mode) (s : Input) → HasName mode None → nameless mode s ≡ Some (decl.Ident None, s)
  empty_gives Named s h = absurd h
  empty_gives Abstract s h = refl
  empty_gives Either s h = refl

  pub empty_bracket : (mode : Mode) (s : Input) → HasName mode None → kind s ≡ Some (token.Punct m.OpenBracket) → Empty mode s
  unfolding innermost same_mark
  empty_bracket mode s h is = record { plain = sees_by m.Star s _ is refl; inner = rw is (empty_gives mode s h) }

  pub empty_paren : (mode : Mode) (s : Input) → HasName mode None → kind s ≡ Some (token.Punct m.OpenParen) → opens_parameters mode s ≡ true → Empty mode s
  unfolding innermost same_mark
  empty_paren mode s h is opens = record { plain = sees_by m.Star s _ is refl; inner = rw (is, opens) (empty_gives mode s h) }

  stop_inner : (k : Option TokenKind) (mode : Mode) (s : Input) → stops k ≡ true → innermost_by (expr d) (declarator d) (specs d) mode k s ≡ nameless mode s
  stop_inner (Some token.Name) mode s h = absurd (cc)
  stop_inner (Some (token.Punct m.OpenParen)) mode s h = absurd (cc)
  stop_inner _ mode s h = refl

  empty_stop : (mode : Mode) (s : Input) → HasName mode None → stops (kind s) ≡ true → Empty mode s
  unfolding innermost
  empty_stop mode s h stop = record { plain = sees_not m.Star s (stops_no_star (kind s) stop); inner = stop_inner (kind s) mode s stop ∙ empty_gives mode s h }

-- the declarator is empty, and in no parentheses
abbrev IsEmpty : Declarator → ℕ → Type 0
IsEmpty (Ident None) zero = Unit {0}
IsEmpty _ _ = ⊥

module _ (e : Declarator) (mode : Mode) (n : ℕ) where
  abbrev pub Bare : Input → Input → Type 0
  Bare = WithinIn mode n (DeclaratorRule e mode)

  abbrev pub Posts : Type 0
  Posts = StarMayStand 1 e n → (s t : Input) → Bare s t → (d : ℕ) → left s ≤ d → (IsEmpty e n → Empty d mode s) → (f : Declarator) (t2 : Input)
      → SuffixTo d e t f t2 → Chains d mode s f t2

  abbrev pub Wholes : Type 0
  Wholes = StarMayStand 0 e n → (s t : Input) → Bare s t → stops (kind t) ≡ true → (d : ℕ) → left s ≤ d
      → one_declarator (expr d) (declarator d) (specs d) mode s ≡ Some (e, t)

  pub record Found : Type 0 where
    pub posts : Posts
    pub whole : Wholes

empty_at : (e : Declarator) (mode : Mode) (n : ℕ) (s t : Input) → IsEmpty e n → WithinIn mode n (DeclaratorRule e mode) s t → HasName mode None × (t ≡ s)
empty_at (Ident None) mode zero s t i h = h
empty_at (Ident None) mode (suc n) s t i h = absurd i
empty_at (Ident (Some k)) mode n s t i h = absurd i
empty_at (pointer words e) mode n s t i h = absurd i
empty_at (array e) mode n s t i h = absurd i
empty_at (array_of e j a) mode n s t i h = absurd i
empty_at (function e k row more) mode n s t i h = absurd i

whole_of : (d : ℕ) (mode : Mode) (s : Input) (f : Declarator) (t : Input) → Chains d mode s f t →
    one_declarator (expr d) (declarator d) (specs d) mode s ≡ Some (f, t)
unfolding one_declarator
whole_of d mode s f t c = rw (c.plain, eat_no m.Star s c.plain) c.gives

-- what is no pointer, or is in parentheses, is found whole where it is found with what comes behind it
pub found_posts : (e : Declarator) (mode : Mode) (n : ℕ) → (StarMayStand 0 e n → StarMayStand 1 e n) → Posts e mode n → Found e mode n
found_posts e mode n may p = record {
  posts = p;
  whole = λ m0 s t h stop d le.
      whole_of d mode s e t (p (may m0) s t h d le
      (λ i. let x = empty_at e mode n s t i h in empty_stop d mode s x.0 (subst (λ u. stops (kind u) ≡ true) x.1 stop))
      e t (suffix_stop d e t (stops_no_suffix (kind t) stop)));
}

-- the first token of a declarator that isn't empty
abbrev First : Mode → Input → Type 0
First mode s = (kind s ≡ Some (token.Punct m.Star)) ⊎ ((kind s ≡ Some (token.Punct m.OpenParen))
    ⊎ ((kind s ≡ Some (token.Punct m.OpenBracket)) ⊎ ((kind s ≡ Some token.Name) × (mode ≢ Abstract))))

first_operand : (e : Declarator) (mode : Mode) (least : ℕ) (s x : Input) → ((t : Input) → DeclaratorRule e mode s t → ¬ (IsEmpty e 0) → First mode s)
    → DeclaratorOperand mode least e (DeclaratorRule e mode) s x → (kind x ≡ Some (token.Punct m.OpenParen)) ⊎ (kind x ≡ Some (token.Punct m.OpenBracket)) →
    First mode s
first_operand e mode least s x f (suc n, (may, h)) after = inr (inl h.1.0.0)
first_operand (Ident None) mode least s x f (zero, (may, h)) after =
    ⊎_elim (λ y. inr (inl (ap kind (sym h.1) ∙ y))) (λ y. inr (inr (inl (ap kind (sym h.1) ∙ y)))) after
first_operand (Ident (Some n)) mode least s x f (zero, (may, h)) after = f x h (λ y. y)
first_operand (pointer words e) mode least s x f (zero, (may, h)) after = f x h (λ y. y)
first_operand (array e) mode least s x f (zero, (may, h)) after = f x h (λ y. y)
first_operand (array_of e j a) mode least s x f (zero, (may, h)) after = f x h (λ y. y)
first_operand (function e q row more) mode least s x f (zero, (may, h)) after = f x h (λ y. y)

not_abstract : (mode : Mode) (n : ℕ) → HasName mode (Some n) → mode ≢ Abstract
not_abstract Named n h e = cc
not_abstract Abstract n h e = absurd h
not_abstract Either n h e = cc

first_bare : (e : Declarator) (mode : Mode) (s t : Input) → DeclaratorRule e mode s t → ¬ (IsEmpty e 0) → First mode s
first_bare (Ident None) mode s t h ne = absurd (ne tt)
first_bare (Ident (Some n)) mode s t h ne = inr (inr (inr (h.1.1.0, not_abstract mode n h.0)))
first_bare (pointer words e) mode s t h ne = inl h.1.0.0
first_bare (array e) mode s t h ne = first_operand e mode 1 s h.0 (first_bare e mode s) h.1.0 (inr h.1.1.1.0.0)
first_bare (array_of e j a) mode s t h ne = first_operand e mode 1 s h.0 (first_bare e mode s) h.1.0 (inr h.1.1.1.0.0)
first_bare (function e q row more) mode s t h ne = first_operand e mode 1 s h.0 (first_bare e mode s) h.1.0 (inl h.1.1.1.0.0)

-- so what stands in parentheses opens no parameters
no_opening : (mode : Mode) (y : Input) → (kind y ≡ Some token.Name → mode ≢ Abstract → is_typedef y ≡ false) → First mode y →
    opens_by (is_typedef y) (kind y) ≡ false
no_opening mode y name (inl is) = rw is refl
no_opening mode y name (inr (inl is)) = rw is refl
no_opening mode y name (inr (inr (inl is))) = rw is refl
no_opening mode y name (inr (inr (inr (is, ne)))) = rw (is, name is ne) refl

nothing_typedef : (mode : Mode) (x y : Input) → NoParameters mode x y → y ≡ x
nothing_typedef Named x y h = h
nothing_typedef Abstract x y h = h
nothing_typedef Either x y h = h.0

opens_not : (mode : Mode) (i x y : Input) → x ≡ next i → NoParameters mode x y → First mode y → opens_parameters mode i ≡ false
opens_not Named i x y e h f = refl
opens_not Abstract i x y e h f =
    ap (λ u. opens_by (is_typedef u) (kind u)) (sym e ∙ sym h) ∙ no_opening Abstract y (λ _ ne. absurd (ne refl)) f
opens_not Either i x y e h f =
    ap (λ u. opens_by (is_typedef u) (kind u)) (sym e ∙ sym h.0)
    ∙ no_opening Either y (λ is ne. ap is_typedef h.0 ∙ h.1 (ap kind (sym h.0) ∙ is)) f

first_within : (e : Declarator) (mode : Mode) (n : ℕ) (s t : Input) → StarMayStand 0 e n → StarMayStand 0 e (suc n) →
    WithinIn mode n (DeclaratorRule e mode) s t → First mode s
first_within e mode (suc n) s t may may2 h = inr (inl h.1.0.0)
first_within (Ident None) mode zero s t may may2 h = absurd (omega (arith, may2))
first_within (Ident (Some k)) mode zero s t may may2 h = first_bare (Ident (Some k)) mode s t h (λ x. x)
first_within (pointer words e) mode zero s t may may2 h = first_bare (pointer words e) mode s t h (λ x. x)
first_within (array e) mode zero s t may may2 h = first_bare (array e) mode s t h (λ x. x)
first_within (array_of e j a) mode zero s t may may2 h = first_bare (array_of e j a) mode s t h (λ x. x)
first_within (function e q row more) mode zero s t may may2 h = first_bare (function e q row more) mode s t h (λ x. x)

-- what may stand in parentheses may stand in one pair less
may_less : (e : Declarator) (n : ℕ) → StarMayStand 0 e (suc n) → StarMayStand 0 e n
may_less (Ident None) n may = absurd (omega (arith, may))
may_less (Ident (Some k)) n may = tt
may_less (pointer words e) n may = inr refl
may_less (array e) n may = tt
may_less (array_of e j a) n may = tt
may_less (function e q row more) n may = tt

may_first : (e : Declarator) (n : ℕ) → StarMayStand 0 e (suc n) → StarMayStand 1 e (suc n)
may_first (Ident None) n may = may
may_first (Ident (Some k)) n may = tt
may_first (pointer words e) n may = inl (λ x. absurd (omega (arith, x)))
may_first (array e) n may = tt
may_first (array_of e j a) n may = tt
may_first (function e q row more) n may = tt

may_any : (e : Declarator) (n : ℕ) → StarMayStand 1 e (suc n) → StarMayStand 0 e (suc n)
may_any (Ident None) n may = may
may_any (Ident (Some k)) n may = tt
may_any (pointer words e) n may = inr refl
may_any (array e) n may = tt
may_any (array_of e j a) n may = tt
may_any (function e q row more) n may = tt

inner_read : (e : Declarator) (mode : Mode) (n : ℕ) → Wholes e mode n → StarMayStand 0 e n → (s t : Input) → WithinIn mode n (DeclaratorRule e mode) s t
    → stops (kind t) ≡ true → (d : ℕ) → left s < d → declarator d mode s ≡ Some (e, t)
unfolding declarator
inner_read e mode n w may s t h stop zero lt = absurd (omega (arith, lt))
inner_read e mode n w may s t h stop (suc d) lt = w may s t h stop d (omega (arith, lt))

paren_inner : (e : Declarator) (mode : Mode) (n : ℕ) → Wholes e mode n → StarMayStand 0 e (suc n) →
    (s t : Input) → WithinIn mode (suc n) (DeclaratorRule e mode) s t
    → (d : ℕ) → left s ≤ d → at_innermost d mode s ≡ Some (e, t)
unfolding innermost nested
paren_inner e mode n w may s t (x, (before, (y, (none, (z, (h, behind)))))) d le =
    let p = mark_takes m.OpenParen s x before in
    let same = nothing_typedef mode x y none in
    let here : left y < d = subst (λ u. left u < d) (sym same) (omega (arith, p, le)) in
    let opens = opens_not mode s x y before.1 none (first_within e mode n y z (may_less e n may) may h) in
    let inner = inner_read e mode n w (may_less e n may) y z h (rw behind.0 refl) d here in
    rw (before.0, opens, ← before.1, ← same, inner, expect_of m.CloseParen z behind.0, behind.1) refl

parens_more : (e : Declarator) (mode : Mode) (n : ℕ) → Wholes e mode n → Found e mode (suc n)
unfolding same_mark
parens_more e mode n w = found_posts e mode (suc n) (may_first e n) (λ may s t h d le i f t2 go. record {
  plain = sees_by m.Star s _ h.1.0.0 refl;
  gives = chain_from d mode s e t f t2 (paren_inner e mode n w (may_any e n may) s t h d le) go;
})

pub parens : (e : Declarator) (mode : Mode) → Found e mode 0 → (n : ℕ) → Found e mode n
parens e mode c zero = c
parens e mode c (suc n) = parens_more e mode n (parens e mode c n).whole

abbrev pub IsDeclared : Declarator → Type 0
IsDeclared e = (mode : Mode) → Found e mode 0

-- a declarator that nothing goes on with is what is read there
pub declarator_read : (e : Declarator) → IsDeclared e → (mode : Mode) (s t : Input) → DeclaratorOperand mode 0 e (DeclaratorRule e mode) s t →
    stops (kind t) ≡ true
    → (d : ℕ) → left s < d → declarator d mode s ≡ Some (e, t)
declarator_read e c mode s t (n, (may, h)) stop d lt = inner_read e mode n (parens e mode (c mode) n).whole may s t h stop d lt

pub declarator_less : (mode : Mode) (least : ℕ) (e : Declarator) (s t : Input) → DeclaratorOperand mode least e (DeclaratorRule e mode) s t → left t ≤ left s
declarator_less mode least e s t h = (declarator_operand_keeps mode least e (DeclaratorRule e mode) (declarator_keeps e mode)).keeps s t h

-- what a suffix goes on from
pub operand_posts : (e : Declarator) → IsDeclared e → (mode : Mode) (s x : Input) → DeclaratorOperand mode 1 e (DeclaratorRule e mode) s x →
    (d : ℕ) → left s ≤ d
    → (HasName mode None → x ≡ s → Empty d mode s) → (f : Declarator) (t2 : Input) → SuffixTo d e x f t2 → Chains d mode s f t2
operand_posts e c mode s x (n, (may, h)) d le i f t2 go =
    (parens e mode (c mode) n).posts may s x h d le (λ k. let y = empty_at e mode n s x k h in i y.0 y.1) f t2 go

pub ident_found : (mode : Mode) → Found (Ident None) mode 0
ident_found mode = found_posts (Ident None) mode 0 (λ may. may) (λ may s t h d le i f t2 go.
    let x = i tt in
    record { plain = x.plain; gives = chain_from d mode s (decl.Ident None) s f t2 x.inner (subst (λ u. SuffixTo d (decl.Ident None) u f t2) h.1 go) })

named_gives : (mode : Mode) (n : ℕ) (s : Input) → HasName mode (Some n) → named mode s ≡ Some (decl.Ident (Some s.at), next s)
named_gives Named n s h = refl
named_gives Abstract n s h = absurd h
named_gives Either n s h = refl

pub name_found : (n : ℕ) (mode : Mode) → Found (Ident (Some n)) mode 0
unfolding innermost same_mark
name_found n mode = found_posts (Ident (Some n)) mode 0 (λ _. tt) (λ may s t h d le i f t2 go.
    let name = h.1.1.0 in
    let read : at_innermost d mode s ≡ Some (decl.Ident (Some n), t) = rw (name, h.1.0, h.1.1.1) (named_gives mode n s h.0) in
    record { plain = sees_by m.Star s _ name refl; gives = chain_from d mode s (decl.Ident (Some n)) t f t2 read go })

first_any : (e : Declarator) (mode : Mode) (least : ℕ) (s t : Input) → DeclaratorOperand mode least e (DeclaratorRule e mode) s t → (t ≡ s) ⊎ First mode s
first_any e mode least s t (suc n, (may, h)) = inr (inr (inl h.1.0.0))
first_any (Ident None) mode least s t (zero, (may, h)) = inl h.1
first_any (Ident (Some n)) mode least s t (zero, (may, h)) = inr (first_bare (Ident (Some n)) mode s t h (λ x. x))
first_any (pointer words e) mode least s t (zero, (may, h)) = inr (first_bare (pointer words e) mode s t h (λ x. x))
first_any (array e) mode least s t (zero, (may, h)) = inr (first_bare (array e) mode s t h (λ x. x))
first_any (array_of e j a) mode least s t (zero, (may, h)) = inr (first_bare (array_of e j a) mode s t h (λ x. x))
first_any (function e q row more) mode least s t (zero, (may, h)) = inr (first_bare (function e q row more) mode s t h (λ x. x))

first_ends : (mode : Mode) (s : Input) → First mode s → ends_specs (kind s) ≡ true
first_ends mode s (inl h) = rw h refl
first_ends mode s (inr (inl h)) = rw h refl
first_ends mode s (inr (inr (inl h))) = rw h refl
first_ends mode s (inr (inr (inr h))) = rw h.0 refl

ends_case : (mode : Mode) (s t : Input) → (t ≡ s) ⊎ First mode s → ends_specs (kind t) ≡ true → ends_specs (kind s) ≡ true
ends_case mode s t (inl same) h = subst (λ x. ends_specs (kind x) ≡ true) same h
ends_case mode s t (inr first) h = first_ends mode s first

-- no specifiers go on with a declarator
pub declarator_ends : (e : Declarator) (mode : Mode) (least : ℕ) (s t : Input) → DeclaratorOperand mode least e (DeclaratorRule e mode) s t
    → ends_specs (kind t) ≡ true → ends_specs (kind s) ≡ true
declarator_ends e mode least s t h free = ends_case mode s t (first_any e mode least s t h) free

no_word_first : (mode : Mode) (s t : Input) → (t ≡ s) ⊎ First mode s → stops (kind t) ≡ true → allows is_qualifier (kind s) ≡ false
no_word_first mode s t (inl same) stop = stops_no_word is_qualifier (kind s) (subst (λ x. stops (kind x) ≡ true) same stop)
no_word_first mode s t (inr first) stop = ends_no_word is_qualifier (kind s) (first_ends mode s first)

no_star : (◌≢◌ {A = ℕ} 0 0) ⊎ (◌≡◌ {A = ℕ} 1 0) → ⊥
no_star (inl h) = h refl
no_star (inr h) = omega (arith, h)

pub pointer_found : (words : List AWord) (e : Declarator) → IsDeclared e → (mode : Mode) → Found (pointer words e) mode 0
unfolding one_declarator pointed
pointer_found words e c mode = record {
  posts = λ may. absurd (no_star may);
  whole = λ may s t (x, (star, (y, (h, g)))) stop d le.
      let p = mark_takes m.Star s x star in
      let q = (words_keep is_qualifier words).keeps x y h in
      let inner = declarator_read e c mode y t g stop d (omega arith) in
      let all = words_read is_qualifier words x y h (no_word_first mode y t (first_any e mode 0 y t g) stop) in
      rw (sees_of m.Star s star.0, eat_yes m.Star s star.0, ← star.1, all, inner, pointer_is words e) refl;
}

first_stops : (mode : Mode) (s : Input) → First mode s → stops (kind s) ≡ false
first_stops mode s (inl h) = rw h refl
first_stops mode s (inr (inl h)) = rw h refl
first_stops mode s (inr (inr (inl h))) = rw h refl
first_stops mode s (inr (inr (inr h))) = rw h.0 refl

named_first : (e : Declarator) (least : ℕ) (s t : Input) → DeclaratorOperand Named least e (DeclaratorRule e Named) s t → First Named s
named_first e least s t (suc n, (may, h)) = inr (inl h.1.0.0)
named_first (Ident None) least s t (zero, (may, h)) = absurd h.0
named_first (Ident (Some n)) least s t (zero, (may, h)) = first_bare (Ident (Some n)) Named s t h (λ x. x)
named_first (pointer words e) least s t (zero, (may, h)) = first_bare (pointer words e) Named s t h (λ x. x)
named_first (array e) least s t (zero, (may, h)) = first_bare (array e) Named s t h (λ x. x)
named_first (array_of e j a) least s t (zero, (may, h)) = first_bare (array_of e j a) Named s t h (λ x. x)
named_first (function e q row more) least s t (zero, (may, h)) = first_bare (function e q row more) Named s t h (λ x. x)

-- no declarator with a name begins with such a punctuator
pub named_no_stop : (e : Declarator) (least : ℕ) (s t : Input) → DeclaratorOperand Named least e (DeclaratorRule e Named) s t → stops (kind s) ≡ false
named_no_stop e least s t h = first_stops Named s (named_first e least s t h)

pub named_ends : (e : Declarator) (least : ℕ) (s t : Input) → DeclaratorOperand Named least e (DeclaratorRule e Named) s t → ends_specs (kind s) ≡ true
named_ends e least s t h = first_ends Named s (named_first e least s t h)

-- ..nor with this one
pub named_no_colon : (e : Declarator) (least : ℕ) (s t : Input) → DeclaratorOperand Named least e (DeclaratorRule e Named) s t →
    kind s ≢ Some (token.Punct m.Colon)
named_no_colon e least s t h is = let g = named_no_stop e least s t h in let f = rw is at g in cc
