-- Initializers, declarations, statements and translation units only add declarations.
use Rattle.std.proofs.Common.{ℕ, zero, suc, Bool, not, ◌&&◌, List, [], ◌∷◌, ◌++◌, Option, Some, None}
use Rattle.c_lex.specs.declared.token.TokenKind.{TokenKind}
use Rattle.c_lex.specs.declared.token.TokenKind.TheVariants as token
use Rattle.c_lex.specs.declared.token.Word.TheVariants as w
use Rattle.c_lex.specs.declared.token.Mark.{Mark as AMark}
use Rattle.c_lex.specs.declared.token.Mark.TheVariants as m
use Rattle.c_ast.specs.declared.declaration.Declarator.{Declarator}
use Rattle.c_ast.specs.declared.declaration.Designator.{Designator}
use Rattle.c_ast.specs.declared.declaration.Designator.TheVariants as designator
use Rattle.c_ast.specs.declared.declaration.Init.{Init}
use Rattle.c_ast.specs.declared.declaration.Init.TheVariants as init
use Rattle.c_ast.specs.declared.declaration.InitEntry.{InitEntry}
use Rattle.c_ast.specs.declared.declaration.Part.{Part}
use Rattle.c_ast.specs.declared.declaration.Specs.{Specs}
use Rattle.c_ast.specs.declared.statement.Entry.{Entry}
use Rattle.c_ast.specs.declared.statement.Entry.TheVariants as entry
use Rattle.c_ast.specs.declared.statement.ForInit.TheVariants as for-init
use Rattle.c_ast.specs.declared.statement.Stmt.{Stmt}
use Rattle.c_ast.specs.declared.statement.UnitEntry.{UnitEntry}
use Rattle.c_ast.specs.declared.statement.UnitEntry.TheVariants as unit
use Rattle.c_ast.specs.Input.{kind}
use Rattle.c_grammar.specs.Operators as op
use Rattle.c_grammar.specs.Grammar.{Named, name_of}
use Rattle.c_grammar.specs.Rules.{is_declaration_word, declares_typedef}
use Rattle.parse_spec.specs.Scopes.{OnlyAdds}
use Rattle.parse_spec.specs.Steps.{Parser, turns, sees_word, scoped}
use Rattle.parse_spec.specs.Places.{opens_designator, begins_declaration, is_label}
use Rattle.parse_spec.specs.Nested.{expr, declarator, specs}
use Rattle.parse_spec.specs.Initializers.{
  one_designator,
  designators_from,
  no_designators,
  designation,
  entry_of,
  entries_from as init_entries_from,
  initializer_at,
  one_initializer,
  initializer,
}
use Rattle.parse_spec.specs.Declarations.{
  assertion,
  declaration_specs,
  named_declarator,
  maybe_init,
  part_of,
  parts_from,
  more_parts,
  maybe_parts,
  declaration,
}
use Rattle.parse_spec.specs.Statements.{
  whole_expr,
  in_parentheses,
  maybe_expr,
  for_value,
  for_init,
  simple_stmt,
  plain_by,
  plain_stmt,
  case_value,
  else_part,
  if_stmt,
  switch_stmt,
  while_stmt,
  do_stmt,
  for_stmt,
  label_stmt,
  case_stmt,
  default_stmt,
  one_entry,
  entries_from,
  entries,
  block,
  unlabelled_by,
  one_stmt,
  statement,
  body,
}
use Rattle.parse_spec.specs.Units.{declared_as, declared, unit_entry, unit_of, is_end, entries_from as unit_entries_from, whole_unit}
use Rattle.parse_spec.proofs.Adding.{
  pure_adds,
  refuse_adds,
  bind_adds,
  then_adds,
  if_adds,
  here_adds,
  take_adds,
  eat_adds,
  eat_word_adds,
  expect_adds,
  expect_word_adds,
  declares_adds,
  scoped_adds,
  in_prototype_adds,
  afresh_adds,
}
use Rattle.parse_spec.proofs.AddingRules.{identifier_adds, expr_adds, declarator_adds, specs_adds, assertion_adds as any_assertion_adds}

-- ---- initializers

one_designator_adds : OnlyAdds one_designator
unfolding one_designator
one_designator_adds = bind_adds _ _ (eat_adds m.Dot) (λ dot. if_adds dot _ _
    (bind_adds _ _ identifier_adds (λ n. pure_adds (designator.Member n)))
    (then_adds _ _ (expect_adds m.OpenBracket) (bind_adds _ _ (here_adds _ (λ i. expr_adds (turns i) op.conditional)) (λ e.
    then_adds _ _ (expect_adds m.CloseBracket) (pure_adds (designator.Element e))))))

designators_from_adds : (n : ℕ) (found : List Designator) → OnlyAdds (designators_from n found)
unfolding designators_from
designators_from_adds zero found = refuse_adds
designators_from_adds (suc n) found = bind_adds _ _ one_designator_adds (λ d. here_adds _ (λ i. if_adds (opens_designator (kind i)) _ _
    (designators_from_adds n (found ++ d ∷ [])) (then_adds _ _ (expect_adds m.Equal) (pure_adds (found ++ d ∷ [])))))

designation_adds : OnlyAdds designation
unfolding designation
designation_adds = here_adds _ (λ i. if_adds (opens_designator (kind i)) _ _ (designators_from_adds (turns i) []) (pure_adds no_designators))

module _ (inner : Parser Init) (gi : OnlyAdds inner) where
  init_entries_adds : (n : ℕ) (found : List InitEntry) → OnlyAdds (init_entries_from inner n found)
  unfolding init_entries_from
  init_entries_adds zero found = refuse_adds
  init_entries_adds (suc n) found = bind_adds _ _ designation_adds (λ ds. bind_adds _ _ gi (λ i. bind_adds _ _ (eat_adds m.Comma) (λ more. if_adds more _ _
      (bind_adds _ _ (eat_adds m.CloseBrace) (λ done. if_adds done _ _ (pure_adds (found ++ entry_of ds i ∷ []))
      (init_entries_adds n (found ++ entry_of ds i ∷ []))))
      (then_adds _ _ (expect_adds m.CloseBrace) (pure_adds (found ++ entry_of ds i ∷ []))))))

  initializer_at_adds : (at : ℕ) → OnlyAdds (initializer_at inner at)
  unfolding initializer_at
  initializer_at_adds at = bind_adds _ _ (eat_adds m.OpenBrace) (λ brace. if_adds brace _ _
      (bind_adds _ _ (here_adds _ (λ i. init_entries_adds (turns i) [])) (λ all. pure_adds (init.Braced at all)))
      (bind_adds _ _ (here_adds _ (λ i. expr_adds (turns i) op.assignment)) (λ e. pure_adds (init.Single e))))

  one_initializer_adds : OnlyAdds (one_initializer inner)
  unfolding one_initializer
  one_initializer_adds = here_adds _ (λ i. initializer_at_adds i.at)

initializer_adds : (depth : ℕ) → OnlyAdds (initializer depth)
unfolding initializer
initializer_adds zero = refuse_adds
initializer_adds (suc depth) = one_initializer_adds (initializer depth) (initializer_adds depth)

-- ---- declarations

assertion_adds : OnlyAdds assertion
unfolding assertion
assertion_adds = here_adds _ (λ i. any_assertion_adds (expr (turns i)) (declarator (turns i)) (specs (turns i)) (expr_adds (turns i))
    (declarator_adds (turns i)) (specs_adds (turns i)))

declaration_specs_adds : OnlyAdds declaration_specs
unfolding declaration_specs
declaration_specs_adds = here_adds _ (λ i. specs_adds (turns i) is_declaration_word)

named_declarator_adds : (typedef : Bool) → OnlyAdds (named_declarator typedef)
unfolding named_declarator
named_declarator_adds typedef = bind_adds _ _ (here_adds _ (λ i. declarator_adds (turns i) Named))
    (λ d. then_adds _ _ (declares_adds typedef (name_of d)) (pure_adds d))

maybe_init_adds : OnlyAdds maybe_init
unfolding maybe_init
maybe_init_adds = bind_adds _ _ (eat_adds m.Equal) (λ more. if_adds more _ _
    (bind_adds _ _ (here_adds _ (λ j. initializer_adds (turns j))) (λ i. pure_adds (Some i))) (pure_adds None))

part_of_adds : (d : Declarator) → OnlyAdds (part_of d)
unfolding part_of
part_of_adds d = bind_adds _ _ maybe_init_adds (λ i. pure_adds _)

parts_from_adds : (typedef : Bool) (n : ℕ) (found : List Part) → OnlyAdds (parts_from typedef n found)
unfolding parts_from
parts_from_adds typedef zero found = refuse_adds
parts_from_adds typedef (suc n) found = bind_adds _ _ (eat_adds m.Comma) (λ more. if_adds more _ _
    (bind_adds _ _ (named_declarator_adds typedef) (λ d. bind_adds _ _ (part_of_adds d) (λ p. parts_from_adds typedef n (found ++ p ∷ []))))
    (then_adds _ _ (expect_adds m.Semicolon) (pure_adds found)))

more_parts_adds : (typedef : Bool) (first : Declarator) → OnlyAdds (more_parts typedef first)
unfolding more_parts
more_parts_adds typedef first = bind_adds _ _ (part_of_adds first) (λ p. here_adds _ (λ i. parts_from_adds typedef (turns i) (p ∷ [])))

maybe_parts_adds : (typedef : Bool) → OnlyAdds (maybe_parts typedef)
unfolding maybe_parts
maybe_parts_adds typedef = bind_adds _ _ (eat_adds m.Semicolon) (λ none. if_adds none _ _ (pure_adds [])
    (bind_adds _ _ (named_declarator_adds typedef) (λ first. more_parts_adds typedef first)))

pub declaration_adds : OnlyAdds declaration
unfolding declaration
declaration_adds = bind_adds _ _ declaration_specs_adds (λ s. bind_adds _ _ (maybe_parts_adds (declares_typedef s.words)) (λ all. pure_adds _))

-- ---- statements

whole_expr_adds : OnlyAdds whole_expr
whole_expr_adds = here_adds _ (λ i. expr_adds (turns i) op.comma)

in_parentheses_adds : OnlyAdds in_parentheses
unfolding in_parentheses
in_parentheses_adds = then_adds _ _ (expect_adds m.OpenParen) (bind_adds _ _ whole_expr_adds (λ e. then_adds _ _ (expect_adds m.CloseParen) (pure_adds e)))

maybe_expr_adds : (end : AMark) → OnlyAdds (maybe_expr end)
unfolding maybe_expr
maybe_expr_adds end = bind_adds _ _ (eat_adds end) (λ none. if_adds none _ _ (pure_adds None)
    (bind_adds _ _ whole_expr_adds (λ e. then_adds _ _ (expect_adds end) (pure_adds (Some e)))))

for_init_adds : OnlyAdds for_init
unfolding for_init
for_init_adds = here_adds _ (λ i. if_adds (begins_declaration i) _ _ (bind_adds _ _ declaration_adds (λ d. pure_adds (for-init.Declared d)))
    (bind_adds _ _ (maybe_expr_adds m.Semicolon) (λ e. pure_adds (for_value e))))

simple_stmt_adds : OnlyAdds simple_stmt
unfolding simple_stmt
simple_stmt_adds = bind_adds _ _ (maybe_expr_adds m.Semicolon) (λ e. pure_adds _)

plain_by_adds : (at : ℕ) (k : Option TokenKind) → OnlyAdds (plain_by at k)
plain_by_adds at (Some (token.Keyword w.Goto)) = then_adds _ _ take_adds
    (bind_adds _ _ identifier_adds (λ n. then_adds _ _ (expect_adds m.Semicolon) (pure_adds _)))
plain_by_adds at (Some (token.Keyword w.Continue)) = then_adds _ _ take_adds (then_adds _ _ (expect_adds m.Semicolon) (pure_adds _))
plain_by_adds at (Some (token.Keyword w.Break)) = then_adds _ _ take_adds (then_adds _ _ (expect_adds m.Semicolon) (pure_adds _))
plain_by_adds at (Some (token.Keyword w.Return)) = then_adds _ _ take_adds (bind_adds _ _ (maybe_expr_adds m.Semicolon) (λ e. pure_adds _))
plain_by_adds at _ = simple_stmt_adds

plain_stmt_adds : OnlyAdds plain_stmt
unfolding plain_stmt
plain_stmt_adds = here_adds _ (λ i. plain_by_adds i.at (kind i))

case_value_adds : OnlyAdds case_value
unfolding case_value
case_value_adds = bind_adds _ _ (here_adds _ (λ i. expr_adds (turns i) op.conditional)) (λ e. then_adds _ _ (expect_adds m.Colon) (pure_adds e))

module _ (inner : Parser Stmt) (gi : OnlyAdds inner) where
  sub_adds : OnlyAdds (scoped inner)
  sub_adds = scoped_adds inner gi

  else_part_adds : OnlyAdds (else_part inner)
  unfolding else_part
  else_part_adds = bind_adds _ _ (eat_word_adds w.Else) (λ more. if_adds more _ _ (bind_adds _ _ sub_adds (λ a. pure_adds (Some a))) (pure_adds None))

  pub if_stmt_adds : OnlyAdds (if_stmt inner)
  unfolding if_stmt
  if_stmt_adds = bind_adds _ _ in_parentheses_adds (λ e. bind_adds _ _ sub_adds (λ a. bind_adds _ _ else_part_adds (λ other. pure_adds _)))

  pub switch_stmt_adds : OnlyAdds (switch_stmt inner)
  unfolding switch_stmt
  switch_stmt_adds = bind_adds _ _ in_parentheses_adds (λ e. bind_adds _ _ sub_adds (λ a. pure_adds _))

  pub while_stmt_adds : OnlyAdds (while_stmt inner)
  unfolding while_stmt
  while_stmt_adds = bind_adds _ _ in_parentheses_adds (λ e. bind_adds _ _ sub_adds (λ a. pure_adds _))

  pub do_stmt_adds : OnlyAdds (do_stmt inner)
  unfolding do_stmt
  do_stmt_adds = bind_adds _ _ sub_adds (λ a. then_adds _ _ (expect_word_adds w.While)
      (bind_adds _ _ in_parentheses_adds (λ e. then_adds _ _ (expect_adds m.Semicolon) (pure_adds _))))

  pub for_stmt_adds : OnlyAdds (for_stmt inner)
  unfolding for_stmt
  for_stmt_adds = then_adds _ _ (expect_adds m.OpenParen) (bind_adds _ _ for_init_adds (λ first. bind_adds _ _ (maybe_expr_adds m.Semicolon) (λ test.
      bind_adds _ _ (maybe_expr_adds m.CloseParen) (λ step. bind_adds _ _ sub_adds (λ a. pure_adds _)))))

  label_stmt_adds : (n : ℕ) → OnlyAdds (label_stmt inner n)
  unfolding label_stmt
  label_stmt_adds n = then_adds _ _ (expect_adds m.Colon) (bind_adds _ _ gi (λ a. pure_adds _))

  case_stmt_adds : (at : ℕ) → OnlyAdds (case_stmt inner at)
  unfolding case_stmt
  case_stmt_adds at = bind_adds _ _ case_value_adds (λ e. bind_adds _ _ gi (λ a. pure_adds _))

  default_stmt_adds : (at : ℕ) → OnlyAdds (default_stmt inner at)
  unfolding default_stmt
  default_stmt_adds at = then_adds _ _ (expect_adds m.Colon) (bind_adds _ _ gi (λ a. pure_adds _))

  one_entry_adds : OnlyAdds (one_entry inner)
  unfolding one_entry
  one_entry_adds = here_adds _ (λ i. if_adds (sees_word w.StaticAssert i) _ _ (bind_adds _ _ assertion_adds (λ p. pure_adds (entry.Assertion p.0 p.1)))
      (if_adds (begins_declaration i && not (is_label i)) _ _ (bind_adds _ _ declaration_adds (λ d. pure_adds (entry.Declaration d)))
      (bind_adds _ _ gi (λ a. pure_adds (entry.Statement a)))))

  entries_from_adds : (n : ℕ) (found : List Entry) → OnlyAdds (entries_from inner n found)
  unfolding entries_from
  entries_from_adds zero found = refuse_adds
  entries_from_adds (suc n) found = bind_adds _ _ (eat_adds m.CloseBrace) (λ done. if_adds done _ _ (pure_adds found)
      (bind_adds _ _ one_entry_adds (λ a. entries_from_adds n (found ++ a ∷ []))))

  pub entries_adds : OnlyAdds (entries inner)
  unfolding entries
  entries_adds = here_adds _ (λ i. entries_from_adds (turns i) [])

  block_adds : OnlyAdds (block inner)
  unfolding block
  block_adds = bind_adds _ _ (scoped_adds _ entries_adds) (λ all. pure_adds _)

  unlabelled_by_adds : (at : ℕ) (k : Option TokenKind) → OnlyAdds (unlabelled_by inner at k)
  unlabelled_by_adds at (Some (token.Punct m.OpenBrace)) = then_adds _ _ take_adds block_adds
  unlabelled_by_adds at (Some (token.Keyword w.Case)) = then_adds _ _ take_adds (case_stmt_adds at)
  unlabelled_by_adds at (Some (token.Keyword w.Default)) = then_adds _ _ take_adds (default_stmt_adds at)
  unlabelled_by_adds at (Some (token.Keyword w.If)) = scoped_adds _ (then_adds _ _ take_adds if_stmt_adds)
  unlabelled_by_adds at (Some (token.Keyword w.Switch)) = scoped_adds _ (then_adds _ _ take_adds switch_stmt_adds)
  unlabelled_by_adds at (Some (token.Keyword w.While)) = scoped_adds _ (then_adds _ _ take_adds while_stmt_adds)
  unlabelled_by_adds at (Some (token.Keyword w.Do)) = scoped_adds _ (then_adds _ _ take_adds do_stmt_adds)
  unlabelled_by_adds at (Some (token.Keyword w.For)) = scoped_adds _ (then_adds _ _ take_adds for_stmt_adds)
  unlabelled_by_adds at _ = plain_stmt_adds

  one_stmt_adds : OnlyAdds (one_stmt inner)
  unfolding one_stmt
  one_stmt_adds = here_adds _ (λ i. if_adds (is_label i) _ _ (bind_adds _ _ identifier_adds (λ n. label_stmt_adds n)) (unlabelled_by_adds i.at (kind i)))

pub statement_adds : (depth : ℕ) → OnlyAdds (statement depth)
unfolding statement
statement_adds zero = refuse_adds
statement_adds (suc depth) = one_stmt_adds (statement depth) (statement_adds depth)

pub body_adds : OnlyAdds body
unfolding body
body_adds = here_adds _ (λ i. entries_adds (statement (turns i)) (statement_adds (turns i)))

-- ---- translation units

declared_as_adds : (s : Specs) → OnlyAdds (declared_as s)
unfolding declared_as
declared_as_adds s = then_adds _ _ afresh_adds
    (bind_adds _ _ (named_declarator_adds (declares_typedef s.words)) (λ d. bind_adds _ _ (eat_adds m.OpenBrace) (λ brace.
    if_adds brace _ _ (bind_adds _ _ (in_prototype_adds _ body_adds) (λ all. pure_adds (unit.Function s d all)))
    (bind_adds _ _ (more_parts_adds (declares_typedef s.words) d) (λ all. pure_adds (unit.Declaration (record { specs = s; parts = all })))))))

declared_adds : OnlyAdds declared
unfolding declared
declared_adds = bind_adds _ _ declaration_specs_adds (λ s. bind_adds _ _ (eat_adds m.Semicolon) (λ none.
    if_adds none _ _ (pure_adds (unit.Declaration (record { specs = s; parts = [] }))) (declared_as_adds s)))

unit_entry_adds : OnlyAdds unit_entry
unfolding unit_entry
unit_entry_adds = bind_adds _ _ (eat_adds m.Semicolon) (λ empty. if_adds empty _ _ (pure_adds unit.Empty)
    (here_adds _ (λ i. if_adds (sees_word w.StaticAssert i) _ _ (bind_adds _ _ assertion_adds (λ p. pure_adds (unit.Assertion p.0 p.1))) declared_adds)))

unit_entries_adds : (n : ℕ) (found : List UnitEntry) → OnlyAdds (unit_entries_from n found)
unfolding unit_entries_from
unit_entries_adds zero found = refuse_adds
unit_entries_adds (suc n) found = here_adds _ (λ i. if_adds (is_end (kind i)) _ _ (pure_adds (unit_of found))
    (bind_adds _ _ unit_entry_adds (λ a. unit_entries_adds n (found ++ a ∷ []))))

pub unit_adds : OnlyAdds whole_unit
unfolding whole_unit
unit_adds = here_adds _ (λ i. unit_entries_adds (turns i) [])
