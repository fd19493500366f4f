-- Statements and block items that are spelled are read.
use Rattle.std.proofs.Common.{
  ◌≡◌,
  ◌≢◌,
  ℕ,
  zero,
  suc,
  ◌<◌,
  ◌≤◌,
  Bool,
  true,
  false,
  List,
  [],
  ◌∷◌,
  ◌++◌,
  Option,
  Some,
  None,
  refl,
  sym,
  ap,
  ◌∙◌,
  arith,
  append_assoc,
  append-nil,
}
use mathlib.Core.Former.{this, arity}
use Rattle.sqlite_items.specs.formers.items.Items.{the_former}
use Rattle.c_lex.specs.declared.token.TokenKind.{TokenKind}
use Rattle.c_lex.specs.declared.token.TokenKind.TheVariants as token
use Rattle.c_lex.specs.declared.token.Word.{Word as AWord}
use Rattle.c_lex.specs.declared.token.Word.TheVariants as w
use Rattle.c_lex.specs.declared.token.Mark.{Mark as AMark}
use Rattle.c_lex.specs.declared.token.Mark.TheVariants as m
use Rattle.c_ast.specs.declared.declaration.Declaration.{Declaration}
use Rattle.c_ast.specs.declared.expression.Expr.{Expr}
use Rattle.c_ast.specs.declared.statement.Entry.{Entry}
use Rattle.c_ast.specs.declared.statement.Entry.TheBlock as tree
use Rattle.c_ast.specs.declared.statement.ForInit.{ForInit}
use Rattle.c_ast.specs.declared.statement.ForInit.TheVariants as for-init
use Rattle.c_ast.specs.declared.statement.Stmt.{Stmt}
use Rattle.c_ast.specs.Input.{Input, kind, next, is_typedef, back_to}
use Rattle.c_grammar.specs.Operators as op
use Rattle.c_grammar.specs.Grammar.{IsExpr, MaybeExpr, InParentheses, ForStart, StmtRule, Entries, EntryRule}
use Rattle.c_grammar.specs.Rules.{Mark, Word, Scoped, is_declaration_word}
use Rattle.parse_spec.specs.Operators.{tight_mark}
use Rattle.parse_spec.specs.Places.{begins_by, begins_declaration}
use Rattle.parse_spec.specs.Scopes.{OnlyAdds}
use Rattle.parse_spec.specs.Statements.{
  whole_expr,
  in_parentheses,
  maybe_expr,
  for_init,
  simple_stmt,
  plain_by,
  plain_stmt,
  case_value,
  else_part,
  if_stmt,
  switch_stmt,
  while_stmt,
  do_stmt,
  for_stmt,
  label_stmt,
  case_stmt,
  default_stmt,
  one_entry,
  entries_from,
  entries,
  block,
  unlabelled_by,
  one_stmt,
  statement,
}
use Rattle.parse_spec.specs.Steps.{Parser, ◌>>◌, left, turns, same_mark, take_token, sees, scoped, scoped_in}
use Rattle.parse_spec.proofs.Adding.{then_adds, take_adds}
use Rattle.parse_sound.proofs.Holding.{sees_of, sees_word_of, closed_is}
use Rattle.parse_sound.proofs.Rows.{Every}
use Rattle.parse_spec.proofs.AddingUnits.{if_stmt_adds, switch_stmt_adds, while_stmt_adds, do_stmt_adds, for_stmt_adds, entries_adds, statement_adds}
use Rattle.parse_complete.proofs.Declarations.{assertion_read, declaration_read}
use Rattle.parse_complete.proofs.Firsts.{opens, opens_no_declaration, no_opening}
use Rattle.parse_complete.proofs.Initializers.{turns_read, begins_expr}
use Rattle.parse_complete.proofs.Keeps.{scoped_keeps}
use Rattle.parse_complete.proofs.Labels.{no_name_no_label, expr_no_label, declaration_no_label, declaration_begins, label_at, stmt_starts}
use Rattle.parse_complete.proofs.StatementTrees.{
  if_only,
  if_else,
  switch_on,
  while_do,
  do_while,
  for_each,
  label,
  case_of,
  default_of,
  entries_of,
  if_only_is,
  if_else_is,
  switch_is,
  while_is,
  do_is,
  for_is,
  label_is,
  case_is,
  default_is,
  block_is,
  statement_is,
  declaration_is,
  entry_assertion_is,
}
use Rattle.parse_complete.proofs.Steps.{
  mark_takes,
  word_takes,
  takes_one,
  expect_of,
  expect_word_of,
  eat_yes,
  eat_no,
  eat_word_yes,
  eat_word_no,
  sees_by,
  sees_not,
  sees_word_not,
}
use Rattle.parse_complete.proofs.Tables.{grip, grip_is}
use Rattle.parse_complete.proofs.Takes.{takes_keep, expr_keeps, in_parentheses_keep, maybe_expr_keeps, for_start_keeps, stmt_takes, entry_takes}
use Rattle.parse_complete.proofs.Words.{identifier_read}

-- ---- expressions among statements

whole_read : (e : Expr) (s t : Input) → IsExpr 0 e s t → grip t ≤ 0 → whole_expr s ≡ Some (e, t)
whole_read e s t h stop = turns_read e 0 (omega arith) s t h stop

in_parentheses_read : (e : Expr) (s t : Input) → InParentheses e s t → in_parentheses s ≡ Some (e, t)
unfolding in_parentheses
in_parentheses_read e s t (x, (before, (y, (h, behind)))) =
    let inner = whole_read e x y h (omega (arith, grip_is y m.CloseParen behind.0)) in
    rw (expect_of m.OpenParen s before.0, ← before.1, inner, expect_of m.CloseParen y behind.0, behind.1) refl

-- a punctuator that ends an expression and begins none
pub record EndsExpr (end : AMark) : Type 0 where
  loose : tight_mark end ≡ 0
  never : (typedef : Bool) → opens typedef (Some (token.Punct end)) ≡ false

semicolon_ends : EndsExpr m.Semicolon
semicolon_ends = record { loose = refl; never = λ _. refl }

paren_ends : EndsExpr m.CloseParen
paren_ends = record { loose = refl; never = λ _. refl }

maybe_expr_read : (end : AMark) → EndsExpr end → (e : Option Expr) (s x t : Input) → MaybeExpr e s x → Mark end x t → maybe_expr end s ≡ Some (e, t)
unfolding maybe_expr
maybe_expr_read end ok None s x t h mark =
    let here : kind s ≡ Some (token.Punct end) = ap kind (sym h) ∙ mark.0 in
    rw (sees_of end s here, eat_yes end s here, ← h, mark.1) refl
maybe_expr_read end ok (Some e) s x t h mark =
    let stop : grip x ≤ 0 = omega (arith, grip_is x end mark.0, ok.loose) in
    let none = sees_not end s (no_opening end s (ok.never (is_typedef s)) (begins_expr e 0 (omega arith) s x h stop)) in
    rw (none, eat_no end s none, whole_read e s x h stop, expect_of end x mark.0, mark.1) refl

for_init_read : (i : ForInit) (s t : Input) → ForStart i s t → for_init s ≡ Some (i, t)
unfolding for_init
for_init_read for-init.Empty s t h =
    let never : begins_declaration s ≡ false = ap (begins_by is_declaration_word (is_typedef s)) h.0 in
    rw (never, maybe_expr_read m.Semicolon semicolon_ends None s s t refl h) refl
for_init_read (for-init.Value e) s t (x, (h, mark)) =
    let opening = begins_expr e 0 (omega arith) s x h (omega (arith, grip_is x m.Semicolon mark.0)) in
    let never : begins_declaration s ≡ false = opens_no_declaration (is_typedef s) (kind s) opening in
    rw (never, maybe_expr_read m.Semicolon semicolon_ends (Some e) s x t h mark) refl
for_init_read (for-init.Declared d) s t h = rw (declaration_begins d s t h, declaration_read d s t h) refl

-- ---- scopes

scoped_read : {A : Type 0} (p : Parser A) → OnlyAdds p → (s x t : Input) (a : A) → p s ≡ Some (a, x) → t ≡ back_to s x → scoped p s ≡ Some (a, t)
scoped_read p only s x t a h e = ap (scoped_in s) h ∙ ap (λ u. Some (a, u)) (closed_is s x (only.adds s x a h) ∙ sym e)

-- ---- statements

abbrev IsStmt : Stmt → Type 0
IsStmt a = (s t : Input) → StmtRule a s t → (d : ℕ) → left s ≤ d → one_stmt (statement d) s ≡ Some (a, t)

stmt_read : (a : Stmt) → IsStmt a → (s t : Input) → StmtRule a s t → (d : ℕ) → left s < d → statement d s ≡ Some (a, t)
unfolding statement
stmt_read a c s t h zero lt = absurd (omega (arith, lt))
stmt_read a c s t h (suc d) lt = c s t h d (omega (arith, lt))

body_read : (a : Stmt) → IsStmt a → (s t : Input) → Scoped (StmtRule a) s t → (d : ℕ) → left s < d → scoped (statement d) s ≡ Some (a, t)
body_read a c s t h d lt = scoped_read (statement d) (statement_adds d) s h.0 t a (stmt_read a c s h.0 h.1.0 d lt) h.1.1

-- ---- statements that hold no other

simple_none : IsStmt (tree.Simple None)
unfolding one_stmt plain_stmt simple_stmt
simple_none s t (x, (h, mark)) d le =
    let here : kind s ≡ Some (token.Punct m.Semicolon) = ap kind (sym h) ∙ mark.0 in
    let no_label = no_name_no_label s _ here refl in
    rw (no_label, here, here, maybe_expr_read m.Semicolon semicolon_ends None s x t h mark) refl

simple_at : (d : ℕ) (typedef : Bool) (k : Option TokenKind) (at : ℕ) (s : Input) → opens typedef k ≡ true → unlabelled_by (statement d) at k s ≡ plain_stmt s
simple_at d typedef (Some (token.Keyword w.Sizeof)) at s h = refl
simple_at d typedef (Some (token.Keyword w.Alignof)) at s h = refl
simple_at d typedef (Some (token.Keyword word)) at s h = absurd (cc)
simple_at d typedef (Some (token.Punct m.OpenBrace)) at s h = absurd (cc)
simple_at d typedef _ at s h = refl

plain_at : (typedef : Bool) (k : Option TokenKind) (at : ℕ) (s : Input) → opens typedef k ≡ true → plain_by at k s ≡ simple_stmt s
plain_at typedef (Some (token.Keyword w.Sizeof)) at s h = refl
plain_at typedef (Some (token.Keyword w.Alignof)) at s h = refl
plain_at typedef (Some (token.Keyword word)) at s h = absurd (cc)
plain_at typedef _ at s h = refl

simple_some : (e : Expr) → IsStmt (tree.Simple (Some e))
unfolding one_stmt plain_stmt simple_stmt
simple_some e s t (x, (h, mark)) d le =
    let opening = begins_expr e 0 (omega arith) s x h (omega (arith, grip_is x m.Semicolon mark.0)) in
    let no_label = expr_no_label e s x h mark.0 in
    rw no_label (simple_at d (is_typedef s) (kind s) s.at s opening ∙ (plain_at (is_typedef s) (kind s) s.at s opening
    ∙ rw (maybe_expr_read m.Semicolon semicolon_ends (Some e) s x t h mark) refl))

goto_found : (n : ℕ) → IsStmt (tree.Goto n)
unfolding one_stmt plain_stmt
goto_found n s t (x, (word, (y, (name, mark)))) d le =
    let no_label = no_name_no_label s _ word.0 refl in
    rw (no_label, word.0, word.0, ← word.1, identifier_read n x y name, expect_of m.Semicolon y mark.0, mark.1) refl

continue_found : (n : ℕ) → IsStmt (tree.Continue n)
unfolding one_stmt plain_stmt
continue_found n s t (x, ((at, word), mark)) d le =
    let no_label = no_name_no_label s _ word.0 refl in
    rw (no_label, word.0, word.0, ← word.1, expect_of m.Semicolon x mark.0, mark.1, at) refl

break_found : (n : ℕ) → IsStmt (tree.Break n)
unfolding one_stmt plain_stmt
break_found n s t (x, ((at, word), mark)) d le =
    let no_label = no_name_no_label s _ word.0 refl in
    rw (no_label, word.0, word.0, ← word.1, expect_of m.Semicolon x mark.0, mark.1, at) refl

return_found : (n : ℕ) (e : Option Expr) → IsStmt (tree.Return n e)
unfolding one_stmt plain_stmt
return_found n e s t (x, ((at, word), (y, (h, mark)))) d le =
    let no_label = no_name_no_label s _ word.0 refl in
    rw (no_label, word.0, word.0, ← word.1, maybe_expr_read m.Semicolon semicolon_ends e x y t h mark, at) refl

-- ---- labels

label_found : (n : ℕ) (a : Stmt) → IsStmt a → IsStmt (label n a)
unfolding one_stmt label_stmt
label_found n a c s t (x, (name, (y, (colon, h)))) d le =
    let is_one = label_at s x name.1.0 name.1.1 colon.0 in
    let p1 = takes_one token.Name s x name.1 in
    let p2 = mark_takes m.Colon x y colon in
    rw (is_one, identifier_read n s x name, expect_of m.Colon x colon.0, ← colon.1, stmt_read a c y t h d (omega arith), label_is n a) refl

case_found : (n : ℕ) (e : Expr) (a : Stmt) → IsStmt a → IsStmt (case_of n e a)
unfolding one_stmt case_stmt case_value
case_found n e a c s t (x, ((at, word), (y, (h, (z, (colon, g)))))) d le =
    let no_label = no_name_no_label s _ word.0 refl in
    let p1 = word_takes w.Case s x word in
    let p2 = (expr_keeps op.conditional e).keeps x y h in
    let p3 = mark_takes m.Colon y z colon in
    let value = turns_read e 2 (omega arith) x y h (omega (arith, grip_is y m.Colon colon.0)) in
    rw (no_label, word.0, ← word.1, value, expect_of m.Colon y colon.0, ← colon.1, stmt_read a c z t g d (omega arith), at, case_is s.at e a) refl

default_found : (n : ℕ) (a : Stmt) → IsStmt a → IsStmt (default_of n a)
unfolding one_stmt default_stmt
default_found n a c s t (x, ((at, word), (y, (colon, g)))) d le =
    let no_label = no_name_no_label s _ word.0 refl in
    let p1 = word_takes w.Default s x word in
    let p2 = mark_takes m.Colon x y colon in
    rw (no_label, word.0, ← word.1, expect_of m.Colon x colon.0, ← colon.1, stmt_read a c y t g d (omega arith), at, default_is s.at a) refl

-- ---- selection and iteration

-- the statement behind its first keyword, in a scope of its own
word_scoped : (p : Parser Stmt) → OnlyAdds p → (word : AWord) (a : Stmt) (s x y t : Input) → Word word s x → p x ≡ Some (a, y) → t ≡ back_to s y
    → scoped (take_token >> p) s ≡ Some (a, t)
word_scoped p only word a s x y t is h e = scoped_read (take_token >> p) (then_adds take_token p take_adds only) s y t a (ap p (sym is.1) ∙ h) e

if_only_found : (e : Expr) (a : Stmt) → IsStmt a → IsStmt (if_only e a)
unfolding one_stmt if_stmt else_part
if_only_found e a c s t (v, ((x, (word, (y, (test, (z, (body, none)))))), out)) d le =
    let no_label = no_name_no_label s _ word.0 refl in
    let p1 = word_takes w.If s x word in
    let p2 = (in_parentheses_keep e).keeps x y test in
    let one = body_read a c y z body d (omega arith) in
    let no_else = sees_word_not w.Else z none.1 in
    let inner : if_stmt (statement d) x ≡ Some (if_only e a, v) =
    rw (in_parentheses_read e x y test, one, no_else, eat_word_no w.Else z no_else, none.0, if_only_is e a) refl in
    rw (no_label, word.0) (word_scoped (if_stmt (statement d)) (if_stmt_adds (statement d) (statement_adds d)) w.If (if_only e a) s x v t word inner out)

if_else_found : (e : Expr) (a b : Stmt) → IsStmt a → IsStmt b → IsStmt (if_else e a b)
unfolding one_stmt if_stmt else_part
if_else_found e a b c c2 s t (v, ((x, (word, (y, (test, (z, (body, (u, (other, body2)))))))), out)) d le =
    let no_label = no_name_no_label s _ word.0 refl in
    let p1 = word_takes w.If s x word in
    let p2 = (in_parentheses_keep e).keeps x y test in
    let p3 = (scoped_keeps (StmtRule a) (takes_keep (StmtRule a) (stmt_takes a))).keeps y z body in
    let p4 = word_takes w.Else z u other in
    let one = body_read a c y z body d (omega arith) in
    let two = body_read b c2 u v body2 d (omega arith) in
    let inner : if_stmt (statement d) x ≡ Some (if_else e a b, v) =
    rw (in_parentheses_read e x y test, one, sees_word_of w.Else z other.0, eat_word_yes w.Else z other.0, ← other.1, two, if_else_is e a b) refl in
    rw (no_label, word.0) (word_scoped (if_stmt (statement d)) (if_stmt_adds (statement d) (statement_adds d)) w.If (if_else e a b) s x v t word inner out)

switch_found : (e : Expr) (a : Stmt) → IsStmt a → IsStmt (switch_on e a)
unfolding one_stmt switch_stmt
switch_found e a c s t (v, ((x, (word, (y, (test, body)))), out)) d le =
    let no_label = no_name_no_label s _ word.0 refl in
    let p1 = word_takes w.Switch s x word in
    let p2 = (in_parentheses_keep e).keeps x y test in
    let inner : switch_stmt (statement d) x ≡ Some (switch_on e a, v) =
    rw (in_parentheses_read e x y test, body_read a c y v body d (omega arith), switch_is e a) refl in
    rw (no_label, word.0) (word_scoped (switch_stmt (statement d)) (switch_stmt_adds (statement d) (statement_adds d)) w.Switch
    (switch_on e a) s x v t word inner out)

while_found : (e : Expr) (a : Stmt) → IsStmt a → IsStmt (while_do e a)
unfolding one_stmt while_stmt
while_found e a c s t (v, ((x, (word, (y, (test, body)))), out)) d le =
    let no_label = no_name_no_label s _ word.0 refl in
    let p1 = word_takes w.While s x word in
    let p2 = (in_parentheses_keep e).keeps x y test in
    let inner : while_stmt (statement d) x ≡ Some (while_do e a, v) =
    rw (in_parentheses_read e x y test, body_read a c y v body d (omega arith), while_is e a) refl in
    rw (no_label, word.0) (word_scoped (while_stmt (statement d)) (while_stmt_adds (statement d) (statement_adds d)) w.While
    (while_do e a) s x v t word inner out)

do_found : (a : Stmt) (e : Expr) → IsStmt a → IsStmt (do_while a e)
unfolding one_stmt do_stmt
do_found a e c s t (v, ((x, (word, (y, (body, (z, (word2, (u, (test, mark)))))))), out)) d le =
    let no_label = no_name_no_label s _ word.0 refl in
    let p1 = word_takes w.Do s x word in
    let inner : do_stmt (statement d) x ≡ Some (do_while a e, v) =
    rw (
      body_read a c x y body d (omega arith),
      expect_word_of w.While y word2.0,
      ← word2.1,
      in_parentheses_read e z u test,
      expect_of m.Semicolon u mark.0,
      mark.1,
      do_is a e,
    ) refl in
    rw (no_label, word.0) (word_scoped (do_stmt (statement d)) (do_stmt_adds (statement d) (statement_adds d)) w.Do (do_while a e) s x v t word inner out)

for_found : (i : ForInit) (test step : Option Expr) (a : Stmt) → IsStmt a → IsStmt (for_each i test step a)
unfolding one_stmt for_stmt
for_found i test step a c s t (v, ((x, (word, (y, (before, (z, (first, (u, (h, (u2, (mark, (q, (g, (q2, (behind, body)))))))))))))), out)) d le =
    let no_label = no_name_no_label s _ word.0 refl in
    let p1 = word_takes w.For s x word in
    let p2 = mark_takes m.OpenParen x y before in
    let p3 = (for_start_keeps i).keeps y z first in
    let p4 = (maybe_expr_keeps test).keeps z u h in
    let p5 = mark_takes m.Semicolon u u2 mark in
    let p6 = (maybe_expr_keeps step).keeps u2 q g in
    let p7 = mark_takes m.CloseParen q q2 behind in
    let inner : for_stmt (statement d) x ≡ Some (for_each i test step a, v) =
    rw (
      expect_of m.OpenParen x before.0,
      ← before.1,
      for_init_read i y z first,
      maybe_expr_read m.Semicolon semicolon_ends test z u u2 h mark,
      maybe_expr_read m.CloseParen paren_ends step u2 q q2 g behind,
      body_read a c q2 v body d (omega arith),
      for_is i test step a,
    ) refl in
    rw (no_label, word.0) (word_scoped (for_stmt (statement d)) (for_stmt_adds (statement d) (statement_adds d)) w.For
    (for_each i test step a) s x v t word inner out)

-- ---- blocks

abbrev IsEntry : Entry → Type 0
IsEntry a = (s t : Input) → EntryRule a s t → (d : ℕ) → left s < d → (one_entry (statement d) s ≡ Some (a, t)) × (sees m.CloseBrace s ≡ false)

statement_entry : (a : Stmt) → IsStmt a → IsEntry (tree.Statement a)
unfolding one_entry
statement_entry a c s t h d le =
    let begins = stmt_starts a s t h in
    (rw (begins.assertion, begins.declaration, stmt_read a c s t h d le, statement_is a) refl, begins.brace)

declaration_no_assert : (typedef : Bool) (k : Option TokenKind) → begins_by is_declaration_word typedef k ≡ true → k ≢ Some (token.Keyword w.StaticAssert)
declaration_no_assert typedef k h is = let g = rw is at h in cc

declaration_no_brace : (typedef : Bool) (k : Option TokenKind) → begins_by is_declaration_word typedef k ≡ true → k ≢ Some (token.Punct m.CloseBrace)
declaration_no_brace typedef k h is = let g = rw is at h in cc

declaration_entry : (d : Declaration) → IsEntry (tree.Declaration d)
unfolding one_entry
declaration_entry a s t h d le =
    let begins = declaration_begins a s t h in
    let never = sees_word_not w.StaticAssert s (declaration_no_assert (is_typedef s) (kind s) begins) in (
      rw (never, begins, declaration_no_label a s t h, declaration_read a s t h, declaration_is a) refl,
      sees_not m.CloseBrace s (declaration_no_brace (is_typedef s) (kind s) begins),
    )

assertion_entry : (e : Expr) (n : ℕ) → IsEntry (tree.Assertion e n)
unfolding one_entry same_mark
assertion_entry e n s t h d le = (
  rw (sees_word_of w.StaticAssert s h.1.0.0, assertion_read e n s t h, entry_assertion_is e n) refl,
  sees_by m.CloseBrace s _ h.1.0.0 refl,
)

abbrev pub AllEntries : List Entry → Type 0
AllEntries [] = Unit {0}
AllEntries (a ∷ rest) = IsEntry a × AllEntries rest

entries_found : (all : List Entry) → AllEntries all → (s q t : Input) → Every EntryRule all s q → Mark m.CloseBrace q t → (d : ℕ) → left s < d →
    (n : ℕ) → left s < n
    → (found : List Entry) → entries_from (statement d) n found s ≡ Some (found ++ all, t)
unfolding entries_from
entries_found all cs s q t h mark d le zero lt found = absurd (omega (arith, lt))
entries_found [] cs s q t h mark d le (suc n) lt found =
    let here = ap kind (sym h) ∙ mark.0 in
    rw (sees_of m.CloseBrace s here, eat_yes m.CloseBrace s here, ← h, mark.1) (ap (λ l. Some (l, next q)) (sym (append-nil found)))
entries_found (a ∷ rest) cs s q t h mark d le (suc n) lt found =
    let one = cs.0 s h.0 h.1.0 d le in
    let p = (entry_takes a).takes s h.0 h.1.0 in
    let more = entries_found rest cs.1 h.0 q t h.1.1 mark d (omega arith) n (omega arith) (found ++ a ∷ []) in
    rw (one.1, eat_no m.CloseBrace s one.1, one.0, more) (ap (λ l. Some (l, t)) (append_assoc found (a ∷ []) rest))

-- block items and the brace behind them
pub entries_read : (all : List Entry) → AllEntries all → (s q t : Input) → Every EntryRule all s q → Mark m.CloseBrace q t → (d : ℕ) → left s < d
    → entries (statement d) s ≡ Some (all, t)
unfolding entries
entries_read all cs s q t h mark d le = entries_found all cs s q t h mark d le (turns s) (omega arith) []

kind_back : (s x : Input) → kind (back_to s x) ≡ kind x
unfolding kind back_to
kind_back s x = refl

next_back : (s x : Input) → next (back_to s x) ≡ back_to s (next x)
unfolding next back_to
next_back s x = refl

-- the parser reads the brace before it closes the scope
pub brace_inside : (s q x t : Input) → x ≡ back_to s q → Mark m.CloseBrace x t → Mark m.CloseBrace q (next q) × (t ≡ back_to s (next q))
brace_inside s q x t e mark = ((sym (ap kind e ∙ kind_back s q) ∙ mark.0, refl), mark.1 ∙ (ap next e ∙ next_back s q))

row_every : {n : _} (row : tree.Row_of-Entry n) (s t : Input) → Entries row s t → Every EntryRule (entries_of row) s t
row_every tree.end_of-Entry s t h = h
row_every (tree.more_of-Entry a rest) s t (x, (h, g)) = (x, (h, row_every rest x t g))

abbrev AreEntries : {n : _} → tree.Row_of-Entry n → Type 0
AreEntries tree.end_of-Entry = Unit {0}
AreEntries (tree.more_of-Entry a rest) = IsEntry a × AreEntries rest

row_all : {n : _} (row : tree.Row_of-Entry n) → AreEntries row → AllEntries (entries_of row)
row_all tree.end_of-Entry cs = tt
row_all (tree.more_of-Entry a rest) cs = (cs.0, row_all rest cs.1)

block_found : (n : List (Unit {0})) (row : tree.Row_of-Entry (arity (the_former (this {0})) n)) → AreEntries row → IsStmt (tree.Block' n row)
unfolding one_stmt block
block_found n row cs s t (x, (before, (y, ((q, (h, out)), behind)))) d le =
    let no_label = no_name_no_label s _ before.0 refl in
    let p1 = mark_takes m.OpenBrace s x before in
    let close = brace_inside x q y t out behind in
    let all = entries_read (entries_of row) (row_all row cs) x q (next q) (row_every row x q h) close.0 d (omega arith) in
    let inner = scoped_read (entries (statement d)) (entries_adds (statement d) (statement_adds d)) x (next q) t (entries_of row) all close.1 in
    rw (no_label, before.0, ← before.1, inner, block_is n row) refl

-- ---- every statement and block item

mutual
  stmt_found : (a : Stmt) → IsStmt a
  stmt_found (tree.Simple None) = simple_none
  stmt_found (tree.Simple (Some e)) = simple_some e
  stmt_found (tree.Block' n row) = block_found n row (all_entries row)
  stmt_found (if_only e a) = if_only_found e a (stmt_found a)
  stmt_found (if_else e a b) = if_else_found e a b (stmt_found a) (stmt_found b)
  stmt_found (switch_on e a) = switch_found e a (stmt_found a)
  stmt_found (while_do e a) = while_found e a (stmt_found a)
  stmt_found (do_while a e) = do_found a e (stmt_found a)
  stmt_found (for_each i test step a) = for_found i test step a (stmt_found a)
  stmt_found (tree.Goto n) = goto_found n
  stmt_found (tree.Continue n) = continue_found n
  stmt_found (tree.Break n) = break_found n
  stmt_found (tree.Return n e) = return_found n e
  stmt_found (label n a) = label_found n a (stmt_found a)
  stmt_found (case_of n e a) = case_found n e a (stmt_found a)
  stmt_found (default_of n a) = default_found n a (stmt_found a)

  all_entries : {n : _} (row : tree.Row_of-Entry n) → AreEntries row
  all_entries tree.end_of-Entry = tt
  all_entries (tree.more_of-Entry a rest) = (entry_found a, all_entries rest)

  pub entry_found : (a : Entry) → IsEntry a
  entry_found (tree.Statement a) = statement_entry a (stmt_found a)
  entry_found (tree.Declaration d) = declaration_entry d
  entry_found (tree.Assertion e n) = assertion_entry e n
