-- What is read as a statement is spelled.
use Rattle.std.proofs.Common.{◌≡◌, ℕ, zero, suc, true, false, not, ◌&&◌, List, [], ◌∷◌, ◌++◌, Option, Some, None, refl, sym, subst, ◌∙◌, append-nil, arith}
use denote.Hole.Carrier.{hidden}
use Rattle.c_lex.specs.declared.token.TokenKind.{TokenKind}
use Rattle.c_lex.specs.declared.token.TokenKind.TheVariants as token
use Rattle.c_lex.specs.declared.token.Word.TheVariants as w
use Rattle.c_lex.specs.declared.token.Mark.{Mark as AMark}
use Rattle.c_lex.specs.declared.token.Mark.TheVariants as m
use Rattle.c_ast.specs.declared.expression.Expr.{Expr}
use Rattle.c_ast.specs.declared.statement.Entry.{Entry}
use Rattle.c_ast.specs.declared.statement.Entry.TheBlock.{hidden-the_row-Entry-0, hidden-the_row-Stmt-1}
use Rattle.c_ast.specs.declared.statement.ForInit.{ForInit}
use Rattle.c_ast.specs.declared.statement.Stmt.{Stmt}
use Rattle.c_ast.specs.declared.statement.Stmt.TheVariants as stmt
use Rattle.c_ast.specs.Input.{Input, kind, next}
use Rattle.c_grammar.specs.Operators as op
use Rattle.c_grammar.specs.Grammar.{IsExpr, MaybeExpr, InParentheses, ForStart, StmtRule, EntryRule}
use Rattle.c_grammar.specs.Rules.{Rule, ◌⨾◌, Mark, Word, Identifier, NotNext, Scoped}
use Rattle.parse_spec.specs.Places.{begins_declaration, is_label}
use Rattle.parse_spec.specs.Steps.{Parser, ◌>>◌, turns, take_token, sees_word, scoped}
use Rattle.parse_spec.specs.Statements.{
  whole_expr,
  in_parentheses,
  maybe_expr,
  for_value,
  for_init,
  simple_stmt,
  plain_by,
  plain_stmt,
  case_value,
  else_part,
  if_stmt,
  switch_stmt,
  while_stmt,
  do_stmt,
  for_stmt,
  label_stmt,
  case_stmt,
  default_stmt,
  one_entry,
  entries_from,
  entries,
  block,
  unlabelled_by,
  one_stmt,
  statement,
  body,
}
use Rattle.parse_spec.specs.Scopes.{OnlyAdds}
use Rattle.parse_spec.proofs.Adding.{then_adds, take_adds}
use Rattle.parse_spec.proofs.AddingUnits.{if_stmt_adds, switch_stmt_adds, while_stmt_adds, do_stmt_adds, for_stmt_adds, entries_adds, statement_adds}
use Rattle.parse_sound.proofs.Declarations.{assertion_holds, declaration_holds}
use Rattle.parse_sound.proofs.Expressions.{identifier_holds}
use Rattle.parse_sound.proofs.Holding.{
  Holds,
  holds,
  refused,
  bind_holds,
  weaken,
  if_holds,
  eat_holds,
  eat_word_holds,
  expect_holds,
  expect_word_holds,
  sees_word_of,
  scoped_holds,
  Braced,
  block_holds,
}
use Rattle.parse_sound.proofs.Nested.{expr_holds}
use Rattle.parse_sound.proofs.Rows.{Every, Extends, every_then, entries as entries_row}

whole_expr_holds : (i : Input) → Holds (λ e j. IsExpr op.comma e i j) (whole_expr i)
whole_expr_holds i = weaken _ (expr_holds (turns i) 0 (omega arith) i) (λ e j h. h.0)

in_parentheses_holds : (i : Input) → Holds (λ e j. InParentheses e i j) (in_parentheses i)
unfolding in_parentheses
in_parentheses_holds i = bind_holds _ _ (expect_holds m.OpenParen i) (λ _ a o. bind_holds _ _ (whole_expr_holds a) (λ e j h.
    bind_holds _ _ (expect_holds m.CloseParen j) (λ _ k c. holds (a, (o, (j, (h, c)))))))

maybe_expr_holds : (end : AMark) (i : Input) → Holds (λ e j. (MaybeExpr e ⨾ Mark end) i j) (maybe_expr end i)
unfolding maybe_expr
maybe_expr_holds end i = eat_holds end _ _ i
    (λ is. holds (i, (refl, (is, refl))))
    (λ none. bind_holds _ _ (whole_expr_holds i) (λ e j h. bind_holds _ _ (expect_holds end j) (λ _ k c. holds (j, (h, c)))))

for_value_rule : (e : Option Expr) (i j : Input) → (MaybeExpr e ⨾ Mark m.Semicolon) i j → ForStart (for_value e) i j
for_value_rule None i j (x, (h, c)) = subst (λ s. Mark m.Semicolon s j) h c
for_value_rule (Some e) i j h = h

for_init_holds : (i : Input) → Holds (λ a j. ForStart a i j) (for_init i)
unfolding for_init
for_init_holds i = if_holds (begins_declaration i) _ _ i
    (λ e. bind_holds _ _ (declaration_holds i) (λ d j h. holds h))
    (λ e. bind_holds _ _ (maybe_expr_holds m.Semicolon i) (λ a j h. holds (for_value_rule a i j h)))

simple_stmt_holds : (i : Input) → Holds (λ a j. StmtRule a i j) (simple_stmt i)
unfolding simple_stmt
simple_stmt_holds i = bind_holds _ _ (maybe_expr_holds m.Semicolon i) (λ e j h. holds h)

plain_by_holds : (i : Input) (k : Option TokenKind) → kind i ≡ k → Holds (λ a j. StmtRule a i j) (plain_by i.at k i)
plain_by_holds i (Some (token.Keyword w.Goto)) is = bind_holds _ _ (identifier_holds (next i)) (λ n j h.
    bind_holds _ _ (expect_holds m.Semicolon j) (λ _ k c. holds (next i, ((is, refl), (j, (h, c))))))
plain_by_holds i (Some (token.Keyword w.Continue)) is = bind_holds _ _ (expect_holds m.Semicolon (next i)) (λ _ k c. holds (next i, ((refl, (is, refl)), c)))
plain_by_holds i (Some (token.Keyword w.Break)) is = bind_holds _ _ (expect_holds m.Semicolon (next i)) (λ _ k c. holds (next i, ((refl, (is, refl)), c)))
plain_by_holds i (Some (token.Keyword w.Return)) is = bind_holds _ _ (maybe_expr_holds m.Semicolon (next i)) (λ e j h. holds (next i, ((refl, (is, refl)), h)))
plain_by_holds i _ is = simple_stmt_holds i

plain_stmt_holds : (i : Input) → Holds (λ a j. StmtRule a i j) (plain_stmt i)
unfolding plain_stmt
plain_stmt_holds i = plain_by_holds i (kind i) refl

case_value_holds : (i : Input) → Holds (λ e j. (IsExpr op.conditional e ⨾ Mark m.Colon) i j) (case_value i)
unfolding case_value
case_value_holds i = bind_holds _ _ (expr_holds (turns i) 2 (omega arith) i) (λ e j h. bind_holds _ _ (expect_holds m.Colon j) (λ _ k c. holds (j, (h.0, c))))

abbrev MaybeElse : Option Stmt → Rule
MaybeElse None = NotNext w.Else
MaybeElse (Some a) = Word w.Else ⨾ Scoped (StmtRule a)

if_rule : (e : Expr) (body : Stmt) (other : Option Stmt) (i j : Input) → Scoped (Word w.If ⨾ InParentheses e ⨾ Scoped (StmtRule body) ⨾ MaybeElse other) i j
    → StmtRule (stmt.If e body other) i j
unfolding hidden-the_row-Stmt-1 hidden
if_rule e body None i j h = h
if_rule e body (Some other) i j h = h

block_rule : (all : List Entry) (i j : Input) → kind i ≡ Some (token.Punct m.OpenBrace) → Braced (Every EntryRule all) (next i) (next i) j
    → StmtRule (stmt.Block all) i j
unfolding hidden-the_row-Entry-0 hidden
block_rule all i j is (x, ((y, (h, same)), c)) = (next i, ((is, refl), (x, ((y, (entries_row all (next i) y h, same)), c))))

-- what is a statement of a form, from these parts
abbrev Made : {X : Type 0} → (X → Stmt) → (X → Rule) → Stmt → Rule
Made {X} make R a i j = (x : X) × ((a ≡ make x) × R x i j)

made_scoped : {X : Type 0} (make : X → Stmt) (R : X → Rule) (a : Stmt) (i j : Input) → ((x : X) → Scoped (R x) i j → StmtRule (make x) i j)
    → Scoped (Made make R a) i j → StmtRule a i j
made_scoped make R a i j f (k, ((x, (same, h)), end)) = subst (λ b. StmtRule b i j) (sym same) (f x (k, (h, end)))

abbrev pub StmtHolds : Parser Stmt → Type 0
StmtHolds inner = (i : Input) → Holds (λ a j. StmtRule a i j) (inner i)

module _ (inner : Parser Stmt) (gi : StmtHolds inner) (only : OnlyAdds inner) where
  sub_holds : (i : Input) → Holds (λ a j. Scoped (StmtRule a) i j) (scoped inner i)
  sub_holds i = scoped_holds StmtRule inner i only (gi i)

  else_part_holds : (i : Input) → Holds (λ a j. MaybeElse a i j) (else_part inner i)
  unfolding else_part
  else_part_holds i = eat_word_holds w.Else _ _ i
      (λ is. bind_holds _ _ (sub_holds (next i)) (λ a j h. holds (next i, ((is, refl), h))))
      (λ none. holds (refl, (λ is. absurd (let wrong : true ≡ false = sym (sees_word_of w.Else i is) ∙ none in cc))))

  abbrev if_made : Expr × (Stmt × Option Stmt) → Stmt
  if_made x = stmt.If x.0 x.1.0 x.1.1

  abbrev IfInside : Expr × (Stmt × Option Stmt) → Rule
  IfInside x = Word w.If ⨾ InParentheses x.0 ⨾ Scoped (StmtRule x.1.0) ⨾ MaybeElse x.1.1

  if_inside_holds : (i : Input) → kind i ≡ Some (token.Keyword w.If) → Holds (λ a j. Made if_made IfInside a i j) (if_stmt inner (next i))
  unfolding if_stmt
  if_inside_holds i is = bind_holds _ _ (in_parentheses_holds (next i))
      (λ e a h. bind_holds _ _ (sub_holds a) (λ body b g. bind_holds _ _ (else_part_holds b) (λ other c l.
      holds ((e, (body, other)), (refl, (next i, ((is, refl), (a, (h, (b, (g, l)))))))))))

  if_stmt_holds : (i : Input) → kind i ≡ Some (token.Keyword w.If) → Holds (λ a j. StmtRule a i j) (scoped (take_token >> if_stmt inner) i)
  if_stmt_holds i is = weaken _ (scoped_holds (Made if_made IfInside) (take_token >> if_stmt inner) i (then_adds _ _ take_adds (if_stmt_adds inner only))
      (if_inside_holds i is))
      (λ a j h. made_scoped if_made IfInside a i j (λ x g. if_rule x.0 x.1.0 x.1.1 i j g) h)

  abbrev switch_made : Expr × Stmt → Stmt
  switch_made x = stmt.Switch x.0 x.1

  abbrev SwitchInside : Expr × Stmt → Rule
  SwitchInside x = Word w.Switch ⨾ InParentheses x.0 ⨾ Scoped (StmtRule x.1)

  switch_inside_holds : (i : Input) → kind i ≡ Some (token.Keyword w.Switch) → Holds (λ a j. Made switch_made SwitchInside a i j) (switch_stmt inner (next i))
  unfolding switch_stmt
  switch_inside_holds i is = bind_holds _ _ (in_parentheses_holds (next i)) (λ e a h. bind_holds _ _ (sub_holds a) (λ body b g.
      holds ((e, body), (refl, (next i, ((is, refl), (a, (h, g))))))))

  switch_stmt_holds : (i : Input) → kind i ≡ Some (token.Keyword w.Switch) → Holds (λ a j. StmtRule a i j) (scoped (take_token >> switch_stmt inner) i)
  unfolding hidden-the_row-Stmt-1 hidden
  switch_stmt_holds i is = weaken _ (scoped_holds (Made switch_made SwitchInside) (take_token >> switch_stmt inner) i
      (then_adds _ _ take_adds (switch_stmt_adds inner only))
      (switch_inside_holds i is)) (λ a j h. made_scoped switch_made SwitchInside a i j (λ x g. g) h)

  abbrev while_made : Expr × Stmt → Stmt
  while_made x = stmt.While x.0 x.1

  abbrev WhileInside : Expr × Stmt → Rule
  WhileInside x = Word w.While ⨾ InParentheses x.0 ⨾ Scoped (StmtRule x.1)

  while_inside_holds : (i : Input) → kind i ≡ Some (token.Keyword w.While) → Holds (λ a j. Made while_made WhileInside a i j) (while_stmt inner (next i))
  unfolding while_stmt
  while_inside_holds i is = bind_holds _ _ (in_parentheses_holds (next i)) (λ e a h. bind_holds _ _ (sub_holds a) (λ body b g.
      holds ((e, body), (refl, (next i, ((is, refl), (a, (h, g))))))))

  while_stmt_holds : (i : Input) → kind i ≡ Some (token.Keyword w.While) → Holds (λ a j. StmtRule a i j) (scoped (take_token >> while_stmt inner) i)
  unfolding hidden-the_row-Stmt-1 hidden
  while_stmt_holds i is = weaken _ (scoped_holds (Made while_made WhileInside) (take_token >> while_stmt inner) i
      (then_adds _ _ take_adds (while_stmt_adds inner only))
      (while_inside_holds i is)) (λ a j h. made_scoped while_made WhileInside a i j (λ x g. g) h)

  abbrev do_made : Stmt × Expr → Stmt
  do_made x = stmt.Do x.0 x.1

  abbrev DoInside : Stmt × Expr → Rule
  DoInside x = Word w.Do ⨾ Scoped (StmtRule x.0) ⨾ Word w.While ⨾ InParentheses x.1 ⨾ Mark m.Semicolon

  do_inside_holds : (i : Input) → kind i ≡ Some (token.Keyword w.Do) → Holds (λ a j. Made do_made DoInside a i j) (do_stmt inner (next i))
  unfolding do_stmt
  do_inside_holds i is = bind_holds _ _ (sub_holds (next i)) (λ body a h. bind_holds _ _ (expect_word_holds w.While a) (λ _ b g.
      bind_holds _ _ (in_parentheses_holds b) (λ e c l. bind_holds _ _ (expect_holds m.Semicolon c) (λ _ d n.
      holds ((body, e), (refl, (next i, ((is, refl), (a, (h, (b, (g, (c, (l, n))))))))))))))

  do_stmt_holds : (i : Input) → kind i ≡ Some (token.Keyword w.Do) → Holds (λ a j. StmtRule a i j) (scoped (take_token >> do_stmt inner) i)
  unfolding hidden-the_row-Stmt-1 hidden
  do_stmt_holds i is = weaken _ (scoped_holds (Made do_made DoInside) (take_token >> do_stmt inner) i (then_adds _ _ take_adds (do_stmt_adds inner only))
      (do_inside_holds i is)) (λ a j h. made_scoped do_made DoInside a i j (λ x g. g) h)

  abbrev for_made : ForInit × (Option Expr × (Option Expr × Stmt)) → Stmt
  for_made x = stmt.For x.0 x.1.0 x.1.1.0 x.1.1.1

  abbrev ForInside : ForInit × (Option Expr × (Option Expr × Stmt)) → Rule
  ForInside x = Word w.For ⨾ Mark m.OpenParen ⨾ ForStart x.0 ⨾ MaybeExpr x.1.0 ⨾ Mark m.Semicolon ⨾ MaybeExpr x.1.1.0 ⨾ Mark m.CloseParen ⨾ Scoped
      (StmtRule x.1.1.1)

  for_inside_holds : (i : Input) → kind i ≡ Some (token.Keyword w.For) → Holds (λ a j. Made for_made ForInside a i j) (for_stmt inner (next i))
  unfolding for_stmt
  for_inside_holds i is = bind_holds _ _ (expect_holds m.OpenParen (next i)) (λ _ a h. bind_holds _ _ (for_init_holds a) (λ first b g.
      bind_holds _ _ (maybe_expr_holds m.Semicolon b) (λ test c l. bind_holds _ _ (maybe_expr_holds m.CloseParen c) (λ step d n.
      bind_holds _ _ (sub_holds d) (λ body f o. holds (
        (first, (test, (step, body))),
        (
          refl,
          (next i, ((is, refl), (a, (h, (b, (g, (l.0, (l.1.0, (c, (l.1.1, (n.0, (n.1.0, (d, (n.1.1, o)))))))))))))),
        ),
      ))))))

  for_stmt_holds : (i : Input) → kind i ≡ Some (token.Keyword w.For) → Holds (λ a j. StmtRule a i j) (scoped (take_token >> for_stmt inner) i)
  unfolding hidden-the_row-Stmt-1 hidden
  for_stmt_holds i is = weaken _ (scoped_holds (Made for_made ForInside) (take_token >> for_stmt inner) i (then_adds _ _ take_adds (for_stmt_adds inner only))
      (for_inside_holds i is)) (λ a j h. made_scoped for_made ForInside a i j (λ x g. g) h)

  -- ---- labelled statements

  label_stmt_holds : (i j : Input) (n : ℕ) → Identifier n i j → Holds (λ a k. StmtRule a i k) (label_stmt inner n j)
  unfolding label_stmt hidden-the_row-Stmt-1 hidden
  label_stmt_holds i j n h = bind_holds _ _ (expect_holds m.Colon j) (λ _ k c. bind_holds _ _ (gi k) (λ a l g. holds (j, (h, (k, (c, g))))))

  case_stmt_holds : (i : Input) → kind i ≡ Some (token.Keyword w.Case) → Holds (λ a j. StmtRule a i j) (case_stmt inner i.at (next i))
  unfolding case_stmt hidden-the_row-Stmt-1 hidden
  case_stmt_holds i is = bind_holds _ _ (case_value_holds (next i)) (λ e j h. bind_holds _ _ (gi j) (λ a k g.
      holds (next i, ((refl, (is, refl)), (h.0, (h.1.0, (j, (h.1.1, g))))))))

  default_stmt_holds : (i : Input) → kind i ≡ Some (token.Keyword w.Default) → Holds (λ a j. StmtRule a i j) (default_stmt inner i.at (next i))
  unfolding default_stmt hidden-the_row-Stmt-1 hidden
  default_stmt_holds i is = bind_holds _ _ (expect_holds m.Colon (next i)) (λ _ j c. bind_holds _ _ (gi j) (λ a k g.
      holds (next i, ((refl, (is, refl)), (j, (c, g))))))

  -- ---- blocks

  one_entry_holds : (i : Input) → Holds (λ a j. EntryRule a i j) (one_entry inner i)
  unfolding one_entry
  one_entry_holds i = if_holds (sees_word w.StaticAssert i) _ _ i
      (λ e. bind_holds _ _ (assertion_holds i) (λ p j h. holds h))
      (λ e. if_holds (begins_declaration i && not (is_label i)) _ _ i
      (λ f. bind_holds _ _ (declaration_holds i) (λ d j h. holds h))
      (λ f. bind_holds _ _ (gi i) (λ a j h. holds h)))

  entries_from_holds : (n : ℕ) (found : List Entry) (i : Input) → Holds (Extends found (λ more. Every EntryRule more ⨾ Mark m.CloseBrace) i)
      (entries_from inner n found i)
  unfolding entries_from
  entries_from_holds zero found i = refused
  entries_from_holds (suc n) found i = eat_holds m.CloseBrace _ _ i
      (λ brace. holds ([], (sym (append-nil found), (i, (refl, (brace, refl))))))
      (λ none. bind_holds _ _ (one_entry_holds i) (λ a j h. weaken _ (entries_from_holds n (found ++ a ∷ []) j) (λ all k g.
      every_then EntryRule (Mark m.CloseBrace) found a i j h all k g)))

  pub entries_hold : (i : Input) → Holds (λ all j. (Every EntryRule all ⨾ Mark m.CloseBrace) i j) (entries inner i)
  unfolding entries
  entries_hold i = weaken _ (entries_from_holds (turns i) [] i) (λ all j h. subst (λ l. (Every EntryRule l ⨾ Mark m.CloseBrace) i j) (sym h.1.0) h.1.1)

  block_stmt_holds : (i : Input) → kind i ≡ Some (token.Punct m.OpenBrace) → Holds (λ a j. StmtRule a i j) (block inner (next i))
  unfolding block
  block_stmt_holds i is = bind_holds _ _ (block_holds (Every EntryRule) (entries inner) (next i) (entries_adds inner only) (entries_hold (next i))) (λ all j h.
      holds (block_rule all i j is h))

  unlabelled_by_holds : (i : Input) (k : Option TokenKind) → kind i ≡ k → Holds (λ a j. StmtRule a i j) (unlabelled_by inner i.at k i)
  unlabelled_by_holds i (Some (token.Punct m.OpenBrace)) is = block_stmt_holds i is
  unlabelled_by_holds i (Some (token.Keyword w.Case)) is = case_stmt_holds i is
  unlabelled_by_holds i (Some (token.Keyword w.Default)) is = default_stmt_holds i is
  unlabelled_by_holds i (Some (token.Keyword w.If)) is = if_stmt_holds i is
  unlabelled_by_holds i (Some (token.Keyword w.Switch)) is = switch_stmt_holds i is
  unlabelled_by_holds i (Some (token.Keyword w.While)) is = while_stmt_holds i is
  unlabelled_by_holds i (Some (token.Keyword w.Do)) is = do_stmt_holds i is
  unlabelled_by_holds i (Some (token.Keyword w.For)) is = for_stmt_holds i is
  unlabelled_by_holds i _ is = plain_stmt_holds i

  one_stmt_holds : StmtHolds (one_stmt inner)
  unfolding one_stmt
  one_stmt_holds i = if_holds (is_label i) _ _ i
      (λ e. bind_holds _ _ (identifier_holds i) (λ n j h. label_stmt_holds i j n h))
      (λ e. unlabelled_by_holds i (kind i) refl)

pub statement_holds : (depth : ℕ) → StmtHolds (statement depth)
unfolding statement
statement_holds zero i = refused
statement_holds (suc depth) i = one_stmt_holds (statement depth) (statement_holds depth) (statement_adds depth) i

-- a function's body and the brace behind it
pub function_body_holds : (i : Input) → Holds (λ all j. (Every EntryRule all ⨾ Mark m.CloseBrace) i j) (body i)
unfolding body
function_body_holds i = entries_hold (statement (turns i)) (statement_holds (turns i)) (statement_adds (turns i)) i
