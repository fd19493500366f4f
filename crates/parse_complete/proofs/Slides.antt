-- What was kept of parameters before changes nothing of what tokens spell as initializers and declarations.
use Rattle.std.proofs.Common.{◌≡◌, ℕ, Bool, List, [], ◌∷◌, Option, Some, None}
use Rattle.c_lex.specs.declared.token.Word.TheVariants as w
use Rattle.c_lex.specs.declared.token.Mark.TheVariants as m
use Rattle.c_ast.specs.declared.declaration.Designator.{Designator}
use Rattle.c_ast.specs.declared.declaration.Designator.TheVariants.{Member, Element}
use Rattle.c_ast.specs.declared.declaration.Init.{Init}
use Rattle.c_ast.specs.declared.declaration.Init.TheBlock.{Single, Braced', Row_of-InitEntry, end_of-InitEntry, more_of-InitEntry}
use Rattle.c_ast.specs.declared.declaration.Part.{Part}
use Rattle.c_ast.specs.declared.declaration.Specs.{Specs}
use Rattle.c_ast.specs.declared.expression.Expr.{Expr}
use Rattle.c_grammar.specs.Operators as op
use Rattle.c_grammar.specs.Grammar.{
  Named,
  IsExpr,
  Spells,
  BaseRule,
  DeclaratorRule,
  level,
  name_of,
  AssertionRule,
  DesignatorRule,
  DesignatorList,
  Designation,
  InitRule,
  InitEntries,
  MoreInits,
  MaybeInit,
  PartRule,
  MoreParts,
  Parts,
  DeclarationSpecifiers,
}
use Rattle.c_grammar.specs.Rules.{Mark, is_declaration_word}
use Rattle.parse_sound.proofs.Declarations.{PartsEnd}
use Rattle.parse_sound.proofs.Slides.{
  Slides,
  nothing_slides,
  never_slides,
  mark_slides,
  word_slides,
  identifier_slides,
  maybe_mark_slides,
  message_slides,
  then_slides,
  operand_slides,
  declares_slides,
  declarator_operand_slides,
  specifiers_slide,
  spells_slides,
  base_slides,
  declarator_slides,
}

expr_slides : (least : ℕ) (e : Expr) → Slides (IsExpr least e)
expr_slides least e = operand_slides least (level e.node) e.at (Spells e.node) (spells_slides e.node)

pub assertion_slides : (e : Expr) (message : ℕ) → Slides (AssertionRule e message)
assertion_slides e message = then_slides _ _ (word_slides w.StaticAssert)
    (then_slides _ _ (mark_slides m.OpenParen) (then_slides _ _ (expr_slides op.conditional e)
    (then_slides _ _ (mark_slides m.Comma) (then_slides _ _ (message_slides message) (then_slides _ _ (mark_slides m.CloseParen) (mark_slides m.Semicolon))))))

designator_slides : (d : Designator) → Slides (DesignatorRule d)
designator_slides (Member n) = then_slides _ _ (mark_slides m.Dot) (identifier_slides n)
designator_slides (Element e) = then_slides _ _ (mark_slides m.OpenBracket) (then_slides _ _ (expr_slides op.conditional e) (mark_slides m.CloseBracket))

designators_slide : (all : List Designator) → Slides (DesignatorList all)
designators_slide [] = nothing_slides
designators_slide (d ∷ rest) = then_slides _ _ (designator_slides d) (designators_slide rest)

designation_slides : (all : List Designator) → Slides (Designation all)
designation_slides [] = nothing_slides
designation_slides (d ∷ rest) = then_slides _ _ (designators_slide (d ∷ rest)) (mark_slides m.Equal)

brace_slides : (at : ℕ) → Slides (λ s t. (at ≡ s.at) × Mark m.OpenBrace s t)
brace_slides at = record { slides = λ i j h p. let more = (mark_slides m.OpenBrace).slides i j h.1 p in (more.0, (h.0, more.1)) }

mutual
  init_slides : (a : Init) → Slides (InitRule a)
  init_slides (Single e) = expr_slides op.assignment e
  init_slides (Braced' at p entries) = then_slides _ _ (brace_slides at) (then_slides _ _ (inits_slide entries)
      (then_slides _ _ (maybe_mark_slides m.Comma) (mark_slides m.CloseBrace)))

  inits_slide : {n : _} (row : Row_of-InitEntry n) → Slides (InitEntries row)
  inits_slide end_of-InitEntry = never_slides
  inits_slide (more_of-InitEntry designators i rest) = then_slides _ _ (designation_slides designators)
      (then_slides _ _ (init_slides i) (more_inits_slide rest))

  more_inits_slide : {n : _} (row : Row_of-InitEntry n) → Slides (MoreInits row)
  more_inits_slide end_of-InitEntry = nothing_slides
  more_inits_slide (more_of-InitEntry designators i rest) = then_slides _ _ (mark_slides m.Comma)
      (then_slides _ _ (designation_slides designators) (then_slides _ _ (init_slides i) (more_inits_slide rest)))

maybe_init_slides : (a : Option Init) → Slides (MaybeInit a)
maybe_init_slides None = nothing_slides
maybe_init_slides (Some a) = then_slides _ _ (mark_slides m.Equal) (init_slides a)

part_slides : (typedef : Bool) (p : Part) → Slides (PartRule typedef p)
part_slides typedef p = then_slides _ _ (declarator_operand_slides Named 0 p.declarator (DeclaratorRule p.declarator Named)
    (declarator_slides p.declarator Named))
    (then_slides _ _ (declares_slides typedef (name_of p.declarator)) (maybe_init_slides p.init))

more_parts_slide : (typedef : Bool) (all : List Part) → Slides (MoreParts typedef all)
more_parts_slide typedef [] = nothing_slides
more_parts_slide typedef (p ∷ rest) = then_slides _ _ (mark_slides m.Comma) (then_slides _ _ (part_slides typedef p) (more_parts_slide typedef rest))

parts_slide : (typedef : Bool) (all : List Part) → Slides (Parts typedef all)
parts_slide typedef [] = nothing_slides
parts_slide typedef (p ∷ rest) = then_slides _ _ (part_slides typedef p) (more_parts_slide typedef rest)

pub parts_end_slides : (typedef : Bool) (all : List Part) → Slides (PartsEnd typedef all)
parts_end_slides typedef all = then_slides _ _ (parts_slide typedef all) (mark_slides m.Semicolon)

pub declaration_specs_slide : (s : Specs) → Slides (DeclarationSpecifiers s)
declaration_specs_slide s = specifiers_slide is_declaration_word s.base (BaseRule s.base) s.words (λ typed. base_slides s.base typed)
