-- Statements: each number in one is that of a token of its kind.
use Rattle.std.proofs.Common.{◌≡◌, ℕ, zero, suc, Bool, true, false, not, ◌&&◌, List, [], ◌∷◌, ◌++◌, All, Option, Some, None, if◌then◌else◌}
use Rattle.std.proofs.lemmas.List.Elements.{All-nil, All-push}
use Rattle.c_lex.specs.TokenText.{TokenText, kind_at}
use Rattle.c_lex.specs.declared.token.TokenKind.{TokenKind}
use Rattle.c_lex.specs.declared.token.TokenKind.TheVariants as token
use Rattle.c_lex.specs.declared.token.Word.TheVariants as w
use Rattle.c_lex.specs.declared.token.Mark.{Mark as AMark}
use Rattle.c_lex.specs.declared.token.Mark.TheVariants as m
use Rattle.c_ast.specs.declared.expression.Expr.{Expr}
use Rattle.c_ast.specs.declared.statement.Entry.{Entry}
use Rattle.c_ast.specs.declared.statement.Entry.TheVariants as entry
use Rattle.c_ast.specs.declared.statement.ForInit.TheVariants as for-init
use Rattle.c_ast.specs.declared.statement.Stmt.{Stmt}
use Rattle.c_ast.specs.Input.{Input, kind}
use Rattle.c_ast.specs.Names.{IsName, IsWord, ExprNames, MaybeExprNames, ForNames, StmtNames, MaybeStmtNames, EntryNames}
use Rattle.c_ast.proofs.Trees.{block_names, if_names, switch_names, while_names, do_names, for_names, label_names, case_names, default_names}
use Rattle.c_grammar.specs.Operators as op
use Rattle.parse_spec.specs.Steps.{Parser, ◌>>=◌, turns, sees_word, identifier, scoped}
use Rattle.parse_spec.specs.Places.{begins_declaration, is_label}
use Rattle.parse_spec.specs.Statements.{
  whole_expr,
  in_parentheses,
  maybe_expr,
  for_value,
  for_init,
  simple_stmt,
  plain_by,
  plain_stmt,
  case_value,
  else_part,
  if_stmt,
  switch_stmt,
  while_stmt,
  do_stmt,
  for_stmt,
  label_stmt,
  case_stmt,
  default_stmt,
  one_entry,
  entries_from,
  entries,
  block,
  unlabelled_by,
  one_stmt,
  statement,
  body,
}
use Rattle.parse_spec.proofs.Adding.{take_adds, eat_adds, eat_word_adds, expect_adds, expect_word_adds}
use Rattle.parse_names.proofs.Declarations.{assertion_reads, declaration_reads}
use Rattle.parse_names.proofs.Declarators.{expr_reads}
use Rattle.parse_names.proofs.Reading.{Gives, Reads, pure_reads, refuse_reads, bind_reads, skip_reads, then_reads, if_reads, here_reads, scoped_reads}
use Rattle.parse_names.proofs.Tokens.{kind_of_next, identifier_reads}

for_value_names : (t : TokenText) (e : Option Expr) → MaybeExprNames t e → ForNames t (for_value e)
for_value_names t None h = tt
for_value_names t (Some e) h = h

module _ (t : TokenText) where
  whole_expr_reads : Reads t (ExprNames t) whole_expr
  whole_expr_reads = here_reads _ (λ i. expr_reads t (turns i) op.comma)

  in_parentheses_reads : Reads t (ExprNames t) in_parentheses
  unfolding in_parentheses
  in_parentheses_reads = then_reads _ _ (expect_adds m.OpenParen) (bind_reads _ _ whole_expr_reads (λ e h.
      then_reads _ _ (expect_adds m.CloseParen) (pure_reads e h)))

  maybe_expr_reads : (end : AMark) → Reads t (MaybeExprNames t) (maybe_expr end)
  unfolding maybe_expr
  maybe_expr_reads end = skip_reads _ _ (eat_adds end) (λ none. if_reads none _ _ (pure_reads None tt)
      (bind_reads _ _ whole_expr_reads (λ e h. then_reads _ _ (expect_adds end) (pure_reads (Some e) h))))

  for_init_reads : Reads t (ForNames t) for_init
  unfolding for_init
  for_init_reads = here_reads _ (λ i. if_reads (begins_declaration i) _ _ (bind_reads _ _ (declaration_reads t) (λ d h. pure_reads (for-init.Declared d) h))
      (bind_reads _ _ (maybe_expr_reads m.Semicolon) (λ e h. pure_reads (for_value e) (for_value_names t e h))))

  simple_stmt_reads : Reads t (StmtNames t) simple_stmt
  unfolding simple_stmt
  simple_stmt_reads = bind_reads _ _ (maybe_expr_reads m.Semicolon) (λ e h. pure_reads _ h)

  plain_by_reads : (at : ℕ) (k : Option TokenKind) → kind_at t at ≡ k → Reads t (StmtNames t) (plain_by at k)
  plain_by_reads at (Some (token.Keyword w.Goto)) is = then_reads _ _ take_adds (bind_reads _ _ (identifier_reads t) (λ n h.
      then_reads _ _ (expect_adds m.Semicolon) (pure_reads _ h)))
  plain_by_reads at (Some (token.Keyword w.Continue)) is = then_reads _ _ take_adds (then_reads _ _ (expect_adds m.Semicolon) (pure_reads _ is))
  plain_by_reads at (Some (token.Keyword w.Break)) is = then_reads _ _ take_adds (then_reads _ _ (expect_adds m.Semicolon) (pure_reads _ is))
  plain_by_reads at (Some (token.Keyword w.Return)) is = then_reads _ _ take_adds (bind_reads _ _ (maybe_expr_reads m.Semicolon) (λ e h.
      pure_reads _ (is, h)))
  plain_by_reads at _ is = simple_stmt_reads

  plain_stmt_reads : Reads t (StmtNames t) plain_stmt
  unfolding plain_stmt
  plain_stmt_reads = record { reads = λ i same. (plain_by_reads i.at (kind i) (kind_of_next t i same)).reads i same }

  case_value_reads : Reads t (ExprNames t) case_value
  unfolding case_value
  case_value_reads = bind_reads _ _ (here_reads _ (λ i. expr_reads t (turns i) op.conditional)) (λ e h.
      then_reads _ _ (expect_adds m.Colon) (pure_reads e h))

  module _ (inner : Parser Stmt) (gi : Reads t (StmtNames t) inner) where
    sub_reads : Reads t (StmtNames t) (scoped inner)
    sub_reads = scoped_reads inner gi

    else_part_reads : Reads t (MaybeStmtNames t) (else_part inner)
    unfolding else_part
    else_part_reads = skip_reads _ _ (eat_word_adds w.Else) (λ more. if_reads more _ _
        (bind_reads _ _ sub_reads (λ a h. pure_reads (Some a) h)) (pure_reads None tt))

    if_stmt_reads : Reads t (StmtNames t) (if_stmt inner)
    unfolding if_stmt
    if_stmt_reads = bind_reads _ _ in_parentheses_reads (λ e h. bind_reads _ _ sub_reads (λ a k. bind_reads _ _ else_part_reads (λ other l.
        pure_reads _ (if_names t e a other h k l))))

    switch_stmt_reads : Reads t (StmtNames t) (switch_stmt inner)
    unfolding switch_stmt
    switch_stmt_reads = bind_reads _ _ in_parentheses_reads (λ e h. bind_reads _ _ sub_reads (λ a k. pure_reads _ (switch_names t e a h k)))

    while_stmt_reads : Reads t (StmtNames t) (while_stmt inner)
    unfolding while_stmt
    while_stmt_reads = bind_reads _ _ in_parentheses_reads (λ e h. bind_reads _ _ sub_reads (λ a k. pure_reads _ (while_names t e a h k)))

    do_stmt_reads : Reads t (StmtNames t) (do_stmt inner)
    unfolding do_stmt
    do_stmt_reads = bind_reads _ _ sub_reads (λ a k. then_reads _ _ (expect_word_adds w.While) (bind_reads _ _ in_parentheses_reads (λ e h.
        then_reads _ _ (expect_adds m.Semicolon) (pure_reads _ (do_names t e a h k)))))

    for_stmt_reads : Reads t (StmtNames t) (for_stmt inner)
    unfolding for_stmt
    for_stmt_reads = then_reads _ _ (expect_adds m.OpenParen) (bind_reads _ _ for_init_reads (λ first h.
        bind_reads _ _ (maybe_expr_reads m.Semicolon) (λ test k. bind_reads _ _ (maybe_expr_reads m.CloseParen) (λ step l.
        bind_reads _ _ sub_reads (λ a n. pure_reads _ (for_names t first test step a h k l n))))))

    label_stmt_reads : (n : ℕ) → IsName t n → Reads t (StmtNames t) (label_stmt inner n)
    unfolding label_stmt
    label_stmt_reads n h = then_reads _ _ (expect_adds m.Colon) (bind_reads _ _ gi (λ a k. pure_reads _ (label_names t n a h k)))

    case_stmt_reads : (at : ℕ) → IsWord t w.Case at → Reads t (StmtNames t) (case_stmt inner at)
    unfolding case_stmt
    case_stmt_reads at h = bind_reads _ _ case_value_reads (λ e k. bind_reads _ _ gi (λ a l. pure_reads _ (case_names t at e a h k l)))

    default_stmt_reads : (at : ℕ) → IsWord t w.Default at → Reads t (StmtNames t) (default_stmt inner at)
    unfolding default_stmt
    default_stmt_reads at h = then_reads _ _ (expect_adds m.Colon) (bind_reads _ _ gi (λ a k. pure_reads _ (default_names t at a h k)))

    one_entry_reads : Reads t (EntryNames t) (one_entry inner)
    unfolding one_entry
    one_entry_reads = here_reads _ (λ i. if_reads (sees_word w.StaticAssert i) _ _
        (bind_reads _ _ (assertion_reads t) (λ p h. pure_reads (entry.Assertion p.0 p.1) h))
        (if_reads (begins_declaration i && not (is_label i)) _ _ (bind_reads _ _ (declaration_reads t) (λ d h. pure_reads (entry.Declaration d) h))
        (bind_reads _ _ gi (λ a h. pure_reads (entry.Statement a) h))))

    entries_from_reads : (n : ℕ) (found : List Entry) → All (EntryNames t) found → Reads t (All (EntryNames t)) (entries_from inner n found)
    unfolding entries_from
    entries_from_reads zero found all = refuse_reads
    entries_from_reads (suc n) found all = skip_reads _ _ (eat_adds m.CloseBrace) (λ done. if_reads done _ _ (pure_reads found all)
        (bind_reads _ _ one_entry_reads (λ a h. entries_from_reads n (found ++ a ∷ []) (All-push (EntryNames t) found a all h))))

    entries_reads : Reads t (All (EntryNames t)) (entries inner)
    unfolding entries
    entries_reads = here_reads _ (λ i. entries_from_reads (turns i) [] (All-nil (EntryNames t)))

    block_reads : Reads t (StmtNames t) (block inner)
    unfolding block
    block_reads = bind_reads _ _ (scoped_reads _ entries_reads) (λ all h. pure_reads _ (block_names t all h))

    unlabelled_by_reads : (at : ℕ) (k : Option TokenKind) → kind_at t at ≡ k → Reads t (StmtNames t) (unlabelled_by inner at k)
    unlabelled_by_reads at (Some (token.Punct m.OpenBrace)) is = then_reads _ _ take_adds block_reads
    unlabelled_by_reads at (Some (token.Keyword w.Case)) is = then_reads _ _ take_adds (case_stmt_reads at is)
    unlabelled_by_reads at (Some (token.Keyword w.Default)) is = then_reads _ _ take_adds (default_stmt_reads at is)
    unlabelled_by_reads at (Some (token.Keyword w.If)) is = scoped_reads _ (then_reads _ _ take_adds if_stmt_reads)
    unlabelled_by_reads at (Some (token.Keyword w.Switch)) is = scoped_reads _ (then_reads _ _ take_adds switch_stmt_reads)
    unlabelled_by_reads at (Some (token.Keyword w.While)) is = scoped_reads _ (then_reads _ _ take_adds while_stmt_reads)
    unlabelled_by_reads at (Some (token.Keyword w.Do)) is = scoped_reads _ (then_reads _ _ take_adds do_stmt_reads)
    unlabelled_by_reads at (Some (token.Keyword w.For)) is = scoped_reads _ (then_reads _ _ take_adds for_stmt_reads)
    unlabelled_by_reads at _ is = plain_stmt_reads

    label_case : (i : Input) (label : Bool) → i.tokens ≡ t
        → Gives t (StmtNames t) ((if label then (identifier >>= label_stmt inner) else unlabelled_by inner i.at (kind i)) i)
    label_case i true same = (bind_reads _ _ (identifier_reads t) label_stmt_reads).reads i same
    label_case i false same = (unlabelled_by_reads i.at (kind i) (kind_of_next t i same)).reads i same

    one_stmt_reads : Reads t (StmtNames t) (one_stmt inner)
    unfolding one_stmt
    one_stmt_reads = record { reads = λ i same. label_case i (is_label i) same }

  pub statement_reads : (depth : ℕ) → Reads t (StmtNames t) (statement depth)
  unfolding statement
  statement_reads zero = refuse_reads
  statement_reads (suc depth) = one_stmt_reads (statement depth) (statement_reads depth)

  pub body_reads : Reads t (All (EntryNames t)) body
  unfolding body
  body_reads = here_reads _ (λ i. entries_reads (statement (turns i)) (statement_reads (turns i)))
