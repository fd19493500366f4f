-- Initializers, declarations and statements take no token back, and each statement takes one.
use Rattle.std.proofs.Common.{◌≡◌, ℕ, ◌<◌, Bool, List, [], ◌∷◌, Option, Some, None, sym, subst, arith}
use Rattle.c_lex.specs.declared.token.Word.TheVariants as w
use Rattle.c_lex.specs.declared.token.Mark.TheVariants as m
use Rattle.c_ast.specs.declared.declaration.Designator.{Designator}
use Rattle.c_ast.specs.declared.declaration.Designator.TheVariants.{Member, Element}
use Rattle.c_ast.specs.declared.declaration.Init.{Init}
use Rattle.c_ast.specs.declared.declaration.Init.TheBlock.{Single, Braced', Row_of-InitEntry, end_of-InitEntry, more_of-InitEntry}
use Rattle.c_ast.specs.declared.declaration.Part.{Part}
use Rattle.c_ast.specs.declared.declaration.Specs.{Specs}
use Rattle.c_ast.specs.declared.expression.Expr.{Expr}
use Rattle.c_ast.specs.Input.{Input}
use Rattle.c_grammar.specs.Operators as op
use Rattle.c_grammar.specs.Grammar.{
  Named,
  IsExpr,
  Spells,
  BaseRule,
  DeclaratorRule,
  level,
  name_of,
  AssertionRule,
  DesignatorRule,
  DesignatorList,
  Designation,
  InitRule,
  InitEntries,
  MoreInits,
  MaybeInit,
  PartRule,
  MoreParts,
  Parts,
  DeclarationSpecifiers,
  DeclarationRule,
  ForStart,
  AtWord,
  StmtRule,
  Stmts,
  ElseRule,
  Entries,
  EntryRule,
  MaybeExpr,
  InParentheses,
}
use Rattle.c_grammar.specs.Rules.{Rule, ◌⨾◌, Scoped, NotNext, Identifier, Mark, is_declaration_word}
use Rattle.c_lex.specs.declared.token.TokenKind.TheVariants as token
use Rattle.c_lex.specs.declared.token.Mark.{Mark as AMark}
use Rattle.c_lex.specs.declared.token.Word.{Word as AWord}
use Rattle.c_grammar.specs.Rules.{Word}
use Rattle.c_ast.specs.declared.declaration.Declaration.{Declaration}
use Rattle.c_ast.specs.declared.statement.Entry.{Entry}
use Rattle.c_ast.specs.declared.statement.Entry.TheBlock as s
use Rattle.c_ast.specs.declared.statement.ForInit.{ForInit}
use Rattle.c_ast.specs.declared.statement.ForInit.TheVariants as for_init
use Rattle.c_ast.specs.declared.statement.Stmt.{Stmt}
use Rattle.parse_spec.specs.Steps.{left}
use Rattle.parse_complete.proofs.Keeps.{
  Keeps,
  nothing_keeps,
  never_keeps,
  mark_keeps,
  word_keeps,
  identifier_keeps,
  maybe_mark_keeps,
  message_keeps,
  then_keeps,
  operand_keeps,
  declares_keeps,
  declarator_operand_keeps,
  specifiers_keep,
  spells_keeps,
  base_keeps,
  declarator_keeps,
  scoped_keeps,
  left_back,
}
use Rattle.parse_complete.proofs.Steps.{mark_takes, word_takes, takes_one}

pub expr_keeps : (least : ℕ) (e : Expr) → Keeps (IsExpr least e)
expr_keeps least e = operand_keeps least (level e.node) e.at (Spells e.node) (spells_keeps e.node)

designator_keeps : (d : Designator) → Keeps (DesignatorRule d)
designator_keeps (Member n) = then_keeps _ _ (mark_keeps m.Dot) (identifier_keeps n)
designator_keeps (Element e) = then_keeps _ _ (mark_keeps m.OpenBracket) (then_keeps _ _ (expr_keeps op.conditional e) (mark_keeps m.CloseBracket))

designators_keep : (all : List Designator) → Keeps (DesignatorList all)
designators_keep [] = nothing_keeps
designators_keep (d ∷ rest) = then_keeps _ _ (designator_keeps d) (designators_keep rest)

pub designation_keeps : (all : List Designator) → Keeps (Designation all)
designation_keeps [] = nothing_keeps
designation_keeps (d ∷ rest) = then_keeps _ _ (designators_keep (d ∷ rest)) (mark_keeps m.Equal)

brace_keeps : (at : ℕ) → Keeps (λ s t. (at ≡ s.at) × Mark m.OpenBrace s t)
brace_keeps at = record { keeps = λ s t h. (mark_keeps m.OpenBrace).keeps s t h.1; tokens = λ s t h. (mark_keeps m.OpenBrace).tokens s t h.1 }

mutual
  pub init_keeps : (a : Init) → Keeps (InitRule a)
  init_keeps (Single e) = expr_keeps op.assignment e
  init_keeps (Braced' at p entries) = then_keeps _ _ (brace_keeps at) (then_keeps _ _ (inits_keep entries)
      (then_keeps _ _ (maybe_mark_keeps m.Comma) (mark_keeps m.CloseBrace)))

  inits_keep : {n : _} (row : Row_of-InitEntry n) → Keeps (InitEntries row)
  inits_keep end_of-InitEntry = never_keeps
  inits_keep (more_of-InitEntry designators i rest) = then_keeps _ _ (designation_keeps designators) (then_keeps _ _ (init_keeps i) (more_inits_keep rest))

  more_inits_keep : {n : _} (row : Row_of-InitEntry n) → Keeps (MoreInits row)
  more_inits_keep end_of-InitEntry = nothing_keeps
  more_inits_keep (more_of-InitEntry designators i rest) = then_keeps _ _ (mark_keeps m.Comma)
      (then_keeps _ _ (designation_keeps designators) (then_keeps _ _ (init_keeps i) (more_inits_keep rest)))

maybe_init_keeps : (a : Option Init) → Keeps (MaybeInit a)
maybe_init_keeps None = nothing_keeps
maybe_init_keeps (Some a) = then_keeps _ _ (mark_keeps m.Equal) (init_keeps a)

pub part_keeps : (typedef : Bool) (p : Part) → Keeps (PartRule typedef p)
part_keeps typedef p = then_keeps _ _ (declarator_operand_keeps Named 0 p.declarator (DeclaratorRule p.declarator Named) (declarator_keeps p.declarator Named))
    (then_keeps _ _ (declares_keeps typedef (name_of p.declarator)) (maybe_init_keeps p.init))

more_parts_keep : (typedef : Bool) (all : List Part) → Keeps (MoreParts typedef all)
more_parts_keep typedef [] = nothing_keeps
more_parts_keep typedef (p ∷ rest) = then_keeps _ _ (mark_keeps m.Comma) (then_keeps _ _ (part_keeps typedef p) (more_parts_keep typedef rest))

parts_keep : (typedef : Bool) (all : List Part) → Keeps (Parts typedef all)
parts_keep typedef [] = nothing_keeps
parts_keep typedef (p ∷ rest) = then_keeps _ _ (part_keeps typedef p) (more_parts_keep typedef rest)

pub declaration_specs_keep : (s : Specs) → Keeps (DeclarationSpecifiers s)
declaration_specs_keep s = specifiers_keep is_declaration_word s.base (BaseRule s.base) s.words (λ typed. base_keeps s.base typed)

declaration_keeps : (d : Declaration) → Keeps (DeclarationRule d)
declaration_keeps d = then_keeps _ _ (declaration_specs_keep d.specs) (then_keeps _ _ (parts_keep _ d.parts) (mark_keeps m.Semicolon))

-- ---- statements

-- the rule takes a token at least
pub record Takes (R : Rule) : Type 0 where
  pub takes : (s t : Input) → R s t → left t < left s
  pub tokens : (s t : Input) → R s t → t.tokens ≡ s.tokens

mark_takes_one : (mark : AMark) → Takes (Mark mark)
mark_takes_one mark = record { takes = λ s t h. mark_takes mark s t h; tokens = λ s t h. (mark_keeps mark).tokens s t h }

word_takes_one : (word : AWord) → Takes (Word word)
word_takes_one word = record { takes = λ s t h. word_takes word s t h; tokens = λ s t h. (word_keeps word).tokens s t h }

identifier_takes : (n : ℕ) → Takes (Identifier n)
identifier_takes n = record { takes = λ s t h. takes_one token.Name s t h.1; tokens = λ s t h. (identifier_keeps n).tokens s t h }

at_word_takes : (word : AWord) (n : ℕ) → Takes (AtWord word n)
at_word_takes word n = record { takes = λ s t h. word_takes word s t h.1; tokens = λ s t h. (word_keeps word).tokens s t h.1 }

pub takes_keep : (R : Rule) → Takes R → Keeps R
takes_keep R f = record { keeps = λ s t h. omega (arith, f.takes s t h); tokens = λ s t h. f.tokens s t h }

first_takes : (R S : Rule) → Takes R → Keeps S → Takes (R ⨾ S)
first_takes R S f g = record {
  takes = λ s t h. omega (arith, f.takes s h.0 h.1.0, g.keeps h.0 t h.1.1);
  tokens = λ s t h. (then_keeps R S (takes_keep R f) g).tokens s t h;
}

last_takes : (R S : Rule) → Keeps R → Takes S → Takes (R ⨾ S)
last_takes R S f g = record {
  takes = λ s t h. omega (arith, f.keeps s h.0 h.1.0, g.takes h.0 t h.1.1);
  tokens = λ s t h. (then_keeps R S f (takes_keep S g)).tokens s t h;
}

scoped_takes : (R : Rule) → Takes R → Takes (Scoped R)
scoped_takes R f = record {
  takes = λ s t h. subst (λ x. left x < left s) (sym h.1.1) (omega (arith, left_back s h.0, f.takes s h.0 h.1.0));
  tokens = λ s t h. (scoped_keeps R (takes_keep R f)).tokens s t h;
}

pub declaration_takes : (d : Declaration) → Takes (DeclarationRule d)
declaration_takes d = last_takes _ _ (declaration_specs_keep d.specs) (last_takes _ _ (parts_keep _ d.parts) (mark_takes_one m.Semicolon))

pub assertion_takes : (e : Expr) (message : ℕ) → Takes (AssertionRule e message)
assertion_takes e message = first_takes _ _ (word_takes_one w.StaticAssert)
    (then_keeps _ _ (mark_keeps m.OpenParen) (then_keeps _ _ (expr_keeps op.conditional e)
    (then_keeps _ _ (mark_keeps m.Comma) (then_keeps _ _ (message_keeps message) (then_keeps _ _ (mark_keeps m.CloseParen) (mark_keeps m.Semicolon))))))

pub maybe_expr_keeps : (e : Option Expr) → Keeps (MaybeExpr e)
maybe_expr_keeps None = nothing_keeps
maybe_expr_keeps (Some e) = expr_keeps op.comma e

pub in_parentheses_keep : (e : Expr) → Keeps (InParentheses e)
in_parentheses_keep e = then_keeps _ _ (mark_keeps m.OpenParen) (then_keeps _ _ (expr_keeps op.comma e) (mark_keeps m.CloseParen))

pub for_start_keeps : (i : ForInit) → Keeps (ForStart i)
for_start_keeps for_init.Empty = mark_keeps m.Semicolon
for_start_keeps (for_init.Value e) = then_keeps _ _ (expr_keeps op.comma e) (mark_keeps m.Semicolon)
for_start_keeps (for_init.Declared d) = declaration_keeps d

not_next_keeps : (word : AWord) → Keeps (NotNext word)
not_next_keeps word = record { keeps = λ s t h. nothing_keeps.keeps s t h.0; tokens = λ s t h. nothing_keeps.tokens s t h.0 }

mutual
  pub stmt_takes : (a : Stmt) → Takes (StmtRule a)
  stmt_takes (s.Simple e) = last_takes _ _ (maybe_expr_keeps e) (mark_takes_one m.Semicolon)
  stmt_takes (s.Block' p entries) = first_takes _ _ (mark_takes_one m.OpenBrace)
      (then_keeps _ _ (scoped_keeps _ (entries_keep entries)) (mark_keeps m.CloseBrace))
  stmt_takes (s.If' e p body other) = scoped_takes _ (first_takes _ _ (word_takes_one w.If) (then_keeps _ _ (in_parentheses_keep e)
      (then_keeps _ _ (scoped_keeps _ (stmts_keep body)) (else_keeps other))))
  stmt_takes (s.Switch' e p body) = scoped_takes _
      (first_takes _ _ (word_takes_one w.Switch) (then_keeps _ _ (in_parentheses_keep e) (scoped_keeps _ (stmts_keep body))))
  stmt_takes (s.While' e p body) = scoped_takes _
      (first_takes _ _ (word_takes_one w.While) (then_keeps _ _ (in_parentheses_keep e) (scoped_keeps _ (stmts_keep body))))
  stmt_takes (s.Do' p body e) = scoped_takes _
      (first_takes _ _ (word_takes_one w.Do) (then_keeps _ _ (scoped_keeps _ (stmts_keep body)) (then_keeps _ _ (word_keeps w.While)
      (then_keeps _ _ (in_parentheses_keep e) (mark_keeps m.Semicolon)))))
  stmt_takes (s.For' i test step p body) =
      scoped_takes _ (first_takes _ _ (word_takes_one w.For) (then_keeps _ _ (mark_keeps m.OpenParen) (then_keeps _ _ (for_start_keeps i)
      (then_keeps _ _ (maybe_expr_keeps test) (then_keeps _ _ (mark_keeps m.Semicolon)
      (then_keeps _ _ (maybe_expr_keeps step) (then_keeps _ _ (mark_keeps m.CloseParen)
      (scoped_keeps _ (stmts_keep body)))))))))
  stmt_takes (s.Goto n) = first_takes _ _ (word_takes_one w.Goto) (then_keeps _ _ (identifier_keeps n) (mark_keeps m.Semicolon))
  stmt_takes (s.Continue n) = first_takes _ _ (at_word_takes w.Continue n) (mark_keeps m.Semicolon)
  stmt_takes (s.Break n) = first_takes _ _ (at_word_takes w.Break n) (mark_keeps m.Semicolon)
  stmt_takes (s.Return n e) = first_takes _ _ (at_word_takes w.Return n) (then_keeps _ _ (maybe_expr_keeps e) (mark_keeps m.Semicolon))
  stmt_takes (s.Label' n p body) = first_takes _ _ (identifier_takes n) (then_keeps _ _ (mark_keeps m.Colon) (stmts_keep body))
  stmt_takes (s.Case' n e p body) = first_takes _ _ (at_word_takes w.Case n)
      (then_keeps _ _ (expr_keeps op.conditional e) (then_keeps _ _ (mark_keeps m.Colon) (stmts_keep body)))
  stmt_takes (s.Default' n p body) = first_takes _ _ (at_word_takes w.Default n) (then_keeps _ _ (mark_keeps m.Colon) (stmts_keep body))

  stmts_keep : {n : _} (row : s.Row_of-Stmt n) → Keeps (Stmts row)
  stmts_keep s.end_of-Stmt = never_keeps
  stmts_keep (s.more_of-Stmt a rest) = takes_keep _ (stmt_takes a)

  else_keeps : (other : s.Held-Stmt-If-2) → Keeps (ElseRule other)
  else_keeps s.None' = not_next_keeps w.Else
  else_keeps (s.Some' p body) = then_keeps _ _ (word_keeps w.Else) (scoped_keeps _ (stmts_keep body))

  entries_keep : {n : _} (row : s.Row_of-Entry n) → Keeps (Entries row)
  entries_keep s.end_of-Entry = nothing_keeps
  entries_keep (s.more_of-Entry a rest) = then_keeps _ _ (takes_keep _ (entry_takes a)) (entries_keep rest)

  pub entry_takes : (a : Entry) → Takes (EntryRule a)
  entry_takes (s.Statement a) = stmt_takes a
  entry_takes (s.Declaration d) = declaration_takes d
  entry_takes (s.Assertion e message) = assertion_takes e message
