-- The numbers in a tree are those of such tokens where those in its parts are.
use Rattle.std.proofs.Common.{◌≡◌, ℕ, List, [], ◌∷◌, All, Option, Some, None, Bool}
use Rattle.std.proofs.lemmas.List.Elements.{All-head, All-tail}
use denote.Hole.Carrier.{hidden, shown}
use Rattle.c_lex.specs.TokenText.{TokenText}
use Rattle.c_lex.specs.declared.token.TokenKind.TheVariants as token
use Rattle.c_lex.specs.declared.token.Word.{Word}
use Rattle.c_lex.specs.declared.token.Word.TheVariants as w
use Rattle.c_ast.specs.declared.declaration.Base.{Base}
use Rattle.c_ast.specs.declared.declaration.Base.TheBlock.{
  hidden-the_row-Declarator-2,
  hidden-the_row-Declarator-5,
  hidden-the_row-Enumerator-1,
  hidden-the_row-Expr-3,
  hidden-the_row-Expr-6,
  hidden-the_row-MemberEntry-0,
  hidden-the_row-Param-4,
  hidden-the_row-TypeName-7,
}
use Rattle.c_ast.specs.declared.declaration.Base.TheVariants as base
use Rattle.c_ast.specs.declared.declaration.Declarator.{Declarator}
use Rattle.c_ast.specs.declared.declaration.Declarator.TheVariants as declarator
use Rattle.c_ast.specs.declared.declaration.Enumerator.{Enumerator}
use Rattle.c_ast.specs.declared.declaration.Init.{Init}
use Rattle.c_ast.specs.declared.declaration.Init.TheBlock.{hidden-the_row-InitEntry-0}
use Rattle.c_ast.specs.declared.declaration.Init.TheVariants as init
use Rattle.c_ast.specs.declared.declaration.InitEntry.{InitEntry}
use Rattle.c_ast.specs.declared.declaration.MemberEntry.{MemberEntry}
use Rattle.c_ast.specs.declared.declaration.MemberEntry.TheVariants as member
use Rattle.c_ast.specs.declared.declaration.Param.{Param}
use Rattle.c_ast.specs.declared.declaration.Specs.{Specs}
use Rattle.c_ast.specs.declared.declaration.TypeName.{TypeName}
use Rattle.c_ast.specs.declared.expression.AssignOp.{AssignOp}
use Rattle.c_ast.specs.declared.expression.BinaryOp.{BinaryOp}
use Rattle.c_ast.specs.declared.expression.Expr.{Expr}
use Rattle.c_ast.specs.declared.expression.ExprNode.{ExprNode}
use Rattle.c_ast.specs.declared.expression.ExprNode.TheVariants as node
use Rattle.c_ast.specs.declared.expression.PostOp.{PostOp}
use Rattle.c_ast.specs.declared.expression.UnaryOp.{UnaryOp}
use Rattle.c_ast.specs.declared.statement.Entry.{Entry}
use Rattle.c_ast.specs.declared.statement.Entry.TheBlock.{hidden-the_row-Entry-0, hidden-the_row-Stmt-1}
use Rattle.c_ast.specs.declared.statement.Entry.TheVariants as entry
use Rattle.c_ast.specs.declared.statement.ForInit.{ForInit}
use Rattle.c_ast.specs.declared.statement.Stmt.{Stmt}
use Rattle.c_ast.specs.declared.statement.Stmt.TheVariants as stmt
use Rattle.c_ast.specs.Names.{
  IsToken,
  IsName,
  IsWord,
  MaybeName,
  NodeNames,
  ExprNames,
  TypeNameNames,
  DeclaratorNames,
  SpecsName,
  BaseNames,
  MemberNames,
  EnumeratorNames,
  ParamNames,
  MaybeExprNames,
  DesignatorNames,
  InitNames,
  InitEntryNames,
  ForNames,
  StmtNames,
  EntryNames,
  MaybeStmtNames,
}

-- ---- expressions

pub unary_names : (t : TokenText) (o : UnaryOp) (a : Expr) → ExprNames t a → NodeNames t (node.Unary o a)
unfolding hidden-the_row-Expr-3 hidden
unary_names t o a h = (h, tt)

pub postfix_names : (t : TokenText) (o : PostOp) (a : Expr) → ExprNames t a → NodeNames t (node.Postfix o a)
unfolding hidden-the_row-Expr-3 hidden
postfix_names t o a h = (h, tt)

pub binary_names : (t : TokenText) (o : BinaryOp) (a b : Expr) → ExprNames t a → ExprNames t b → NodeNames t (node.Binary o a b)
unfolding hidden-the_row-Expr-3 hidden
binary_names t o a b h k = ((h, tt), (k, tt))

pub assign_names : (t : TokenText) (o : AssignOp) (a b : Expr) → ExprNames t a → ExprNames t b → NodeNames t (node.Assign o a b)
unfolding hidden-the_row-Expr-3 hidden
assign_names t o a b h k = ((h, tt), (k, tt))

pub cond_names : (t : TokenText) (a b c : Expr) → ExprNames t a → ExprNames t b → ExprNames t c → NodeNames t (node.Cond a b c)
unfolding hidden-the_row-Expr-3 hidden
cond_names t a b c h k l = ((h, tt), (k, tt), (l, tt))

pub comma_names : (t : TokenText) (all : List Expr) → All (ExprNames t) all → NodeNames t (node.Comma all)
unfolding hidden-the_row-Expr-6 hidden
comma_names t [] h = tt
comma_names t (e ∷ rest) h = (All-head (ExprNames t) e rest h, comma_names t rest (All-tail (ExprNames t) e rest h))

pub call_names : (t : TokenText) (a : Expr) (all : List Expr) → ExprNames t a → All (ExprNames t) all → NodeNames t (node.Call a all)
unfolding hidden-the_row-Expr-3 hidden
call_names t a all h k = ((h, tt), comma_names t all k)

pub index_names : (t : TokenText) (a b : Expr) → ExprNames t a → ExprNames t b → NodeNames t (node.Index a b)
unfolding hidden-the_row-Expr-3 hidden
index_names t a b h k = ((h, tt), (k, tt))

pub dot_names : (t : TokenText) (a : Expr) (n : ℕ) → ExprNames t a → IsName t n → NodeNames t (node.Dot a n)
unfolding hidden-the_row-Expr-3 hidden
dot_names t a n h k = ((h, tt), k)

pub arrow_names : (t : TokenText) (a : Expr) (n : ℕ) → ExprNames t a → IsName t n → NodeNames t (node.Arrow a n)
unfolding hidden-the_row-Expr-3 hidden
arrow_names t a n h k = ((h, tt), k)

pub cast_names : (t : TokenText) (to : TypeName) (a : Expr) → TypeNameNames t to → ExprNames t a → NodeNames t (node.Cast to a)
unfolding hidden-the_row-Expr-3 hidden-the_row-TypeName-7 hidden
cast_names t to a h k = ((h.0, h.1, tt), (k, tt))

pub sizeof_expr_names : (t : TokenText) (a : Expr) → ExprNames t a → NodeNames t (node.SizeofExpr a)
unfolding hidden-the_row-Expr-3 hidden
sizeof_expr_names t a h = (h, tt)

pub sizeof_type_names : (t : TokenText) (of : TypeName) → TypeNameNames t of → NodeNames t (node.SizeofType of)
unfolding hidden-the_row-TypeName-7 hidden
sizeof_type_names t of h = (h.0, h.1, tt)

pub alignof_type_names : (t : TokenText) (of : TypeName) → TypeNameNames t of → NodeNames t (node.AlignofType of)
unfolding hidden-the_row-TypeName-7 hidden
alignof_type_names t of h = (h.0, h.1, tt)

-- ---- declarators

pub pointer_names : (t : TokenText) (words : List Word) (d : Declarator) → DeclaratorNames t d → DeclaratorNames t (declarator.Pointer words d)
unfolding hidden-the_row-Declarator-2 hidden
pointer_names t words d h = (h, tt)

pub array_names : (t : TokenText) (d : Declarator) → DeclaratorNames t d → DeclaratorNames t (declarator.Array d None)
unfolding hidden-the_row-Declarator-2 hidden
array_names t d h = ((h, tt), tt)

pub array_of_names : (t : TokenText) (d : Declarator) (a : Expr) → DeclaratorNames t d → ExprNames t a → DeclaratorNames t (declarator.Array d (Some a))
unfolding hidden-the_row-Declarator-2 hidden-the_row-Expr-3 hidden
array_of_names t d a h k = ((h, tt), (k, tt))

pub function_names : (t : TokenText) (d : Declarator) (params : List Param) (ellipsis : Bool) → DeclaratorNames t d → All (ParamNames t) params
    → DeclaratorNames t (declarator.Function d params ellipsis)
unfolding hidden-the_row-Declarator-2 hidden-the_row-Param-4 hidden
function_names t d [] ellipsis h k = ((h, tt), tt)
function_names t d (p ∷ rest) ellipsis h k =
    let first = All-head (ParamNames t) p rest k in
    ((h, tt), (first.0, first.1, (function_names t d rest ellipsis h (All-tail (ParamNames t) p rest k)).1))

-- ---- specifiers

pub members_names : (t : TokenText) (union : Bool) (tag : Option ℕ) (all : List MemberEntry) → MaybeName t tag → All (MemberNames t) all
    → BaseNames t (base.Tagged union tag (Some all))
unfolding hidden-the_row-MemberEntry-0 hidden
members_names t union tag [] h k = (h, tt)
members_names t union tag (m ∷ rest) h k =
    (h, (All-head (MemberNames t) m rest k, (members_names t union tag rest h (All-tail (MemberNames t) m rest k)).1))

pub enumerators_names : (t : TokenText) (tag : Option ℕ) (all : List Enumerator) → MaybeName t tag → All (EnumeratorNames t) all
    → BaseNames t (base.Enumerated tag (Some all))
unfolding hidden-the_row-Enumerator-1 hidden
enumerators_names t tag [] h k = (h, tt)
enumerators_names t tag (m ∷ rest) h k =
    (h, (All-head (EnumeratorNames t) m rest k, (enumerators_names t tag rest h (All-tail (EnumeratorNames t) m rest k)).1))

pub fields_names : (t : TokenText) (specs : Specs) (all : List Declarator) → SpecsName t specs → All (DeclaratorNames t) all
    → MemberNames t (member.Fields specs all)
unfolding hidden-the_row-Declarator-5 hidden
fields_names t specs [] h k = (h, tt)
fields_names t specs (d ∷ rest) h k =
    (h, (All-head (DeclaratorNames t) d rest k, (fields_names t specs rest h (All-tail (DeclaratorNames t) d rest k)).1))

pub member_assertion_names : (t : TokenText) (e : Expr) (message : ℕ) → ExprNames t e → IsToken t token.StringLit message
    → MemberNames t (member.Assertion e message)
member_assertion_names t e message h k = (h, k)

-- ---- initializers

pub braced_names : (t : TokenText) (at : ℕ) (all : List InitEntry) → All (InitEntryNames t) all → InitNames t (init.Braced at all)
unfolding hidden-the_row-InitEntry-0 hidden
braced_names t at [] h = tt
braced_names t at (e ∷ rest) h =
    let first = All-head (InitEntryNames t) e rest h in
    (first.0, first.1, braced_names t at rest (All-tail (InitEntryNames t) e rest h))

-- ---- statements

pub block_names : (t : TokenText) (all : List Entry) → All (EntryNames t) all → StmtNames t (stmt.Block all)
unfolding hidden-the_row-Entry-0 hidden
block_names t [] h = tt
block_names t (e ∷ rest) h = (All-head (EntryNames t) e rest h, block_names t rest (All-tail (EntryNames t) e rest h))

pub if_names : (t : TokenText) (e : Expr) (body : Stmt) (other : Option Stmt) → ExprNames t e → StmtNames t body → MaybeStmtNames t other
    → StmtNames t (stmt.If e body other)
unfolding hidden-the_row-Stmt-1 hidden
if_names t e body None h k l = (h, (k, tt), tt)
if_names t e body (Some other) h k l = (h, (k, tt), (l, tt))

pub switch_names : (t : TokenText) (e : Expr) (body : Stmt) → ExprNames t e → StmtNames t body → StmtNames t (stmt.Switch e body)
unfolding hidden-the_row-Stmt-1 hidden
switch_names t e body h k = (h, (k, tt))

pub while_names : (t : TokenText) (e : Expr) (body : Stmt) → ExprNames t e → StmtNames t body → StmtNames t (stmt.While e body)
unfolding hidden-the_row-Stmt-1 hidden
while_names t e body h k = (h, (k, tt))

pub do_names : (t : TokenText) (e : Expr) (body : Stmt) → ExprNames t e → StmtNames t body → StmtNames t (stmt.Do body e)
unfolding hidden-the_row-Stmt-1 hidden
do_names t e body h k = ((k, tt), h)

pub for_names : (t : TokenText) (i : ForInit) (test step : Option Expr) (body : Stmt) → ForNames t i → MaybeExprNames t test → MaybeExprNames t step
    → StmtNames t body → StmtNames t (stmt.For i test step body)
unfolding hidden-the_row-Stmt-1 hidden
for_names t i test step body h k l m = (h, k, l, (m, tt))

pub label_names : (t : TokenText) (n : ℕ) (body : Stmt) → IsName t n → StmtNames t body → StmtNames t (stmt.Label n body)
unfolding hidden-the_row-Stmt-1 hidden
label_names t n body h k = (h, (k, tt))

pub case_names : (t : TokenText) (n : ℕ) (e : Expr) (body : Stmt) → IsWord t w.Case n → ExprNames t e → StmtNames t body
    → StmtNames t (stmt.Case n e body)
unfolding hidden-the_row-Stmt-1 hidden
case_names t n e body h k l = (h, k, (l, tt))

pub default_names : (t : TokenText) (n : ℕ) (body : Stmt) → IsWord t w.Default n → StmtNames t body → StmtNames t (stmt.Default n body)
unfolding hidden-the_row-Stmt-1 hidden
default_names t n body h k = (h, (k, tt))

pub ruleset tree_names = (
  unary_names,
  postfix_names,
  binary_names,
  assign_names,
  cond_names,
  comma_names,
  call_names,
  index_names,
  dot_names,
  arrow_names,
  cast_names,
  sizeof_expr_names,
  sizeof_type_names,
  alignof_type_names,
  pointer_names,
  array_names,
  array_of_names,
  function_names,
  members_names,
  enumerators_names,
  fields_names,
  member_assertion_names,
  braced_names,
  block_names,
  if_names,
  switch_names,
  while_names,
  do_names,
  for_names,
  label_names,
  case_names,
  default_names,
)
