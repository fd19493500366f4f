-- Declarations that are spelled are read.
use Rattle.std.proofs.Common.{
  ◌≡◌,
  ℕ,
  zero,
  suc,
  ◌<◌,
  ◌≤◌,
  Bool,
  true,
  false,
  ◌⊎◌,
  inl,
  inr,
  List,
  [],
  ◌∷◌,
  ◌++◌,
  Option,
  Some,
  None,
  refl,
  sym,
  ap,
  ◌∙◌,
  subst,
  arith,
  append_assoc,
  append-nil,
}
use Rattle.c_lex.specs.declared.token.TokenKind.TheVariants as token
use Rattle.c_lex.specs.declared.token.Mark.TheVariants as m
use Rattle.c_ast.specs.declared.declaration.Declaration.{Declaration}
use Rattle.c_ast.specs.declared.declaration.Declarator.{Declarator}
use Rattle.c_ast.specs.declared.declaration.Init.{Init}
use Rattle.c_ast.specs.declared.declaration.Part.{Part}
use Rattle.c_ast.specs.declared.declaration.Specs.{Specs}
use Rattle.c_ast.specs.declared.expression.Expr.{Expr}
use Rattle.c_ast.specs.Input.{Input, kind, next}
use Rattle.c_grammar.specs.Grammar.{Named, AssertionRule, MaybeInit, MoreParts, DeclarationSpecifiers, DeclarationRule, name_of}
use Rattle.c_grammar.specs.Rules.{Mark, Declares, is_declaration_word, declares_typedef}
use Rattle.parse_spec.specs.Steps.{left, turns, same_mark, sees}
use Rattle.parse_spec.specs.Declarations.{
  assertion,
  declaration_specs,
  named_declarator,
  maybe_init,
  part_of,
  parts_from,
  more_parts,
  maybe_parts,
  declaration,
}
use Rattle.parse_sound.proofs.Declarations.{PartsEnd}
use Rattle.parse_sound.proofs.Holding.{sees_of}
use Rattle.parse_sound.proofs.Rows.{NamedRule}
use Rattle.parse_complete.proofs.Declarators.{stops, ends_specs, declarator_read, named_no_stop, named_ends}
use Rattle.parse_complete.proofs.Initializers.{init_found}
use Rattle.parse_complete.proofs.Members.{assertion_read as any_assertion_read}
use Rattle.parse_complete.proofs.Nested.{read, are_declared, specified}
use Rattle.parse_complete.proofs.Specifiers.{declaration_tags}
use Rattle.parse_complete.proofs.Steps.{mark_takes, expect_of, eat_yes, eat_no, sees_by, sees_not}
use Rattle.parse_complete.proofs.Suffixes.{kind_declares}
use Rattle.parse_complete.proofs.Tables.{grip, grip_is}
use Rattle.parse_complete.proofs.Takes.{part_keeps}

pub assertion_read : (e : Expr) (n : ℕ) (s t : Input) → AssertionRule e n s t → assertion s ≡ Some ((e, n), t)
unfolding assertion
assertion_read e n s t h = any_assertion_read e.at e.node n (read e.node) s t h (turns s) (omega arith)

pub specs_read : (all : Specs) (s t : Input) → DeclarationSpecifiers all s t → ends_specs (kind t) ≡ true → declaration_specs s ≡ Some (all, t)
unfolding declaration_specs
specs_read all s t h stop = specified all.base all.words is_declaration_word declaration_tags s t h stop (turns s) (omega arith)

-- a declarator whose name is in scope behind it
pub named_read : (typedef : Bool) (d : Declarator) (s x y : Input) → NamedRule d s x → Declares typedef (name_of d) x y → stops (kind y) ≡ true
    → named_declarator typedef s ≡ Some (d, y)
unfolding named_declarator
named_read typedef d s x y h g stop =
    let n = kind_declares typedef (name_of d) x y g in
    let one = declarator_read d (are_declared d) Named s x h (subst (λ k. stops k ≡ true) n.0 stop) (turns s) (omega arith) in
    rw (one, n.1) refl

-- what follows a part of a declaration
abbrev pub EndsPart : Input → Type 0
EndsPart t = (kind t ≡ Some (token.Punct m.Comma)) ⊎ (kind t ≡ Some (token.Punct m.Semicolon))

ends_grip : (t : Input) → EndsPart t → grip t ≤ 1
ends_grip t (inl is) = omega (arith, grip_is t m.Comma is)
ends_grip t (inr is) = omega (arith, grip_is t m.Semicolon is)

ends_stops : (t : Input) → EndsPart t → stops (kind t) ≡ true
ends_stops t (inl is) = rw is refl
ends_stops t (inr is) = rw is refl

ends_equal : (t : Input) → EndsPart t → sees m.Equal t ≡ false
unfolding same_mark
ends_equal t (inl is) = sees_by m.Equal t _ is refl
ends_equal t (inr is) = sees_by m.Equal t _ is refl

maybe_init_read : (a : Option Init) (s t : Input) → MaybeInit a s t → EndsPart t → maybe_init s ≡ Some (a, t)
unfolding maybe_init
maybe_init_read None s t h end =
    let none = ends_equal s (subst EndsPart h end) in
    rw (none, eat_no m.Equal s none, h) refl
maybe_init_read (Some a) s t (x, (mark, h)) end =
    rw (sees_of m.Equal s mark.0, eat_yes m.Equal s mark.0, ← mark.1, init_found a x t h (ends_grip t end) (turns x) (omega arith)) refl

part_stops : (a : Option Init) (s t : Input) → MaybeInit a s t → EndsPart t → stops (kind s) ≡ true
part_stops None s t h end = ends_stops s (subst EndsPart h end)
part_stops (Some a) s t h end = rw h.1.0.0 refl

part_read : (d : Declarator) (a : Option Init) (s t : Input) → MaybeInit a s t → EndsPart t → part_of d s ≡ Some (record { declarator = d; init = a }, t)
unfolding part_of
part_read d a s t h end = rw (maybe_init_read a s t h end) refl

pub after_part : (typedef : Bool) (rest : List Part) (s q t : Input) → MoreParts typedef rest s q → Mark m.Semicolon q t → EndsPart s
after_part typedef [] s q t h end = inr (ap kind (sym h) ∙ end.0)
after_part typedef (p ∷ rest) s q t h end = inl h.1.0.0

parts_found : (typedef : Bool) (rest : List Part) (s q t : Input) → MoreParts typedef rest s q → Mark m.Semicolon q t → (n : ℕ) → left s < n →
    (found : List Part)
    → parts_from typedef n found s ≡ Some (found ++ rest, t)
unfolding parts_from same_mark
parts_found typedef rest s q t h end zero lt found = absurd (omega (arith, lt))
parts_found typedef [] s q t h end (suc n) lt found =
    let here = ap kind (sym h) ∙ end.0 in
    let none = sees_by m.Comma s _ here refl in
    rw (none, eat_no m.Comma s none, expect_of m.Semicolon s here, ← h, end.1) (ap (λ l. Some (l, next q)) (sym (append-nil found)))
parts_found typedef (p ∷ rest) s q t h end (suc n) lt found =
    let comma = h.1.0 in
    let x = h.0 in
    let part = h.1.1.1.0 in
    let y = h.1.1.0 in
    let after = after_part typedef rest y q t h.1.1.1.1 end in
    let c = mark_takes m.Comma s x comma in
    let k = (part_keeps typedef p).keeps x y part in
    let one = named_read typedef p.declarator x part.0 part.1.1.0 part.1.0 part.1.1.1.0 (part_stops p.init part.1.1.0 y part.1.1.1.1 after) in
    let two = part_read p.declarator p.init part.1.1.0 y part.1.1.1.1 after in
    let more = parts_found typedef rest y q t h.1.1.1.1 end n (omega arith) (found ++ p ∷ []) in
    rw (sees_of m.Comma s comma.0, eat_yes m.Comma s comma.0, ← comma.1, one, two, more) (ap (λ l. Some (l, t)) (append_assoc found (p ∷ []) rest))

pub more_parts_read : (typedef : Bool) (p : Part) (rest : List Part) (s y q t : Input) → MaybeInit p.init s y → MoreParts typedef rest y q →
    Mark m.Semicolon q t
    → more_parts typedef p.declarator s ≡ Some (p ∷ rest, t)
unfolding more_parts
more_parts_read typedef p rest s y q t h g end =
    let one = part_read p.declarator p.init s y h (after_part typedef rest y q t g end) in
    rw (one, parts_found typedef rest y q t g end (turns y) (omega arith) (p ∷ [])) refl

-- the first declarator of a declaration, and what follows it
pub first_stops : (typedef : Bool) (p : Part) (rest : List Part) (s y q t : Input) → MaybeInit p.init s y → MoreParts typedef rest y q → Mark m.Semicolon q t
    → stops (kind s) ≡ true
first_stops typedef p rest s y q t h g end = part_stops p.init s y h (after_part typedef rest y q t g end)

parts_begin : (typedef : Bool) (all : List Part) (s t : Input) → PartsEnd typedef all s t → ends_specs (kind s) ≡ true
parts_begin typedef [] s t h = rw (ap kind (sym h.1.0) ∙ h.1.1.0) refl
parts_begin typedef (p ∷ rest) s t h = named_ends p.declarator 0 s h.1.0.1.0.0 h.1.0.1.0.1.0

maybe_parts_read : (typedef : Bool) (all : List Part) (s t : Input) → PartsEnd typedef all s t → maybe_parts typedef s ≡ Some (all, t)
unfolding maybe_parts
maybe_parts_read typedef [] s t (q, (h, end)) =
    let here = ap kind (sym h) ∙ end.0 in
    rw (sees_of m.Semicolon s here, eat_yes m.Semicolon s here, ← h, end.1) refl
maybe_parts_read typedef (p ∷ rest) s t (q, ((y, ((x, (h, (z, (n, g)))), more)), end)) =
    let none = sees_not m.Semicolon s (λ is. absurd (let e = named_no_stop p.declarator 0 s x h in let f = rw is at e in cc)) in
    let one = named_read typedef p.declarator s x z h n (first_stops typedef p rest z y q t g more end) in
    rw (none, eat_no m.Semicolon s none, one, more_parts_read typedef p rest z y q t g more end) refl

pub declaration_read : (d : Declaration) (s t : Input) → DeclarationRule d s t → declaration s ≡ Some (d, t)
unfolding declaration
declaration_read d s t (x, (h, g)) =
    rw (
      specs_read d.specs s x h (parts_begin (declares_typedef d.specs.words) d.parts x t g),
      maybe_parts_read (declares_typedef d.specs.words) d.parts x t g,
    ) refl
