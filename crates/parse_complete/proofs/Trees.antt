-- The cases of the tree, and that what the parser makes is the case that the grammar names.
use Rattle.std.proofs.Common.{◌≡◌, ℕ, List, Bool, Option, Some, None, refl, sym, ap, ◌∙◌}
use mathlib.Core.Former.{this, arity}
use denote.Hole.Carrier.{hidden, shown, roll}
use Rattle.sqlite_items.specs.formers.items.Items.{the_former}
use Rattle.c_lex.specs.declared.token.Word.{Word as AWord}
use Rattle.c_ast.specs.declared.declaration.Base.TheBlock.{
  Pointer',
  Array',
  Function',
  Unary',
  Postfix',
  Binary',
  Assign',
  Cond',
  Comma',
  Call',
  Index',
  Dot',
  Arrow',
  Cast',
  SizeofExpr',
  SizeofType',
  AlignofType',
  Row_of-Expr,
  end_of-Expr,
  more_of-Expr,
  Row_of-Declarator,
  end_of-Declarator,
  more_of-Declarator,
  end_of-TypeName,
  more_of-TypeName,
  Row_of-Param,
  Declarator-Array-1-None',
  Declarator-Array-1-Some',
  items-the_row-Expr,
  items_shown-the_row-Expr-6,
  shown-the_row-Expr-6,
  hidden-the_row-Expr-3,
  shape-the_row-Expr-3,
  shown-the_row-Expr-3,
  hidden-the_row-TypeName-7,
  shape-the_row-TypeName-7,
  hidden-the_row-Declarator-2,
  shape-the_row-Declarator-2,
  shown-the_row-Declarator-2,
  items-the_row-Param,
  items_shown-the_row-Param-4,
  shown-the_row-Param-4,
  Fields',
  Assertion',
  Enumerator-value-None',
  Enumerator-value-Some',
  Tagged',
  Base-Tagged-2-Some',
  Enumerated',
  Base-Enumerated-1-Some',
  Row_of-MemberEntry,
  Row_of-Enumerator,
  items-the_row-Declarator,
  items_shown-the_row-Declarator-5,
  shown-the_row-Declarator-5,
  items-the_row-MemberEntry,
  items_shown-the_row-MemberEntry-0,
  items-the_row-Enumerator,
  items_shown-the_row-Enumerator-1,
  backs-Base-Tagged-2,
  backs-Base-Enumerated-1,
}
use Rattle.c_ast.specs.declared.declaration.Base.{Base}
use Rattle.c_ast.specs.declared.declaration.Base.TheVariants as base
use Rattle.c_ast.specs.declared.declaration.Base.TheViews.{roll-Enumerator}
use Rattle.c_ast.specs.declared.declaration.Enumerator.{Enumerator, Enumerator'}
use Rattle.c_ast.specs.declared.declaration.MemberEntry.{MemberEntry, roll-MemberEntry, roll-out-MemberEntry}
use Rattle.c_ast.specs.declared.declaration.MemberEntry.TheVariants as member-entry
use Rattle.c_ast.specs.declared.declaration.Declarator.{Declarator, roll-Declarator, roll-out-Declarator}
use Rattle.c_ast.specs.declared.declaration.Declarator.TheVariants as declarator
use Rattle.c_ast.specs.declared.declaration.Param.{Param}
use Rattle.c_ast.specs.declared.declaration.Specs.{Specs}
use Rattle.c_ast.specs.declared.declaration.TypeName.{TypeName}
use Rattle.c_ast.specs.declared.expression.Expr.{Expr}
use Rattle.c_ast.specs.declared.expression.ExprNode.{ExprNode, roll-ExprNode, roll-out-ExprNode}
use Rattle.c_ast.specs.declared.expression.ExprNode.TheVariants as node
use Rattle.c_ast.specs.declared.expression.UnaryOp.{UnaryOp}
use Rattle.c_ast.specs.declared.expression.PostOp.{PostOp}
use Rattle.c_ast.specs.declared.expression.BinaryOp.{BinaryOp}
use Rattle.c_ast.specs.declared.expression.AssignOp.{AssignOp}
use Rattle.parse_spec.specs.Expressions.{made}

-- ---- expressions

pattern abbrev pub unary : UnaryOp → ℕ → ExprNode → ExprNode
unary o i a = Unary' o tt (more_of-Expr i a end_of-Expr)

pattern abbrev pub postfix : PostOp → ℕ → ExprNode → ExprNode
postfix o i a = Postfix' o tt (more_of-Expr i a end_of-Expr)

pattern abbrev pub binary : BinaryOp → ℕ → ExprNode → ℕ → ExprNode → ExprNode
binary o i a j b = Binary' o tt (more_of-Expr i a end_of-Expr) tt (more_of-Expr j b end_of-Expr)

pattern abbrev pub assign : AssignOp → ℕ → ExprNode → ℕ → ExprNode → ExprNode
assign o i a j b = Assign' o tt (more_of-Expr i a end_of-Expr) tt (more_of-Expr j b end_of-Expr)

pattern abbrev pub cond : ℕ → ExprNode → ℕ → ExprNode → ℕ → ExprNode → ExprNode
cond i a j b k c = Cond' tt (more_of-Expr i a end_of-Expr) tt (more_of-Expr j b end_of-Expr) tt (more_of-Expr k c end_of-Expr)

pattern abbrev pub index : ℕ → ExprNode → ℕ → ExprNode → ExprNode
index i a j b = Index' tt (more_of-Expr i a end_of-Expr) tt (more_of-Expr j b end_of-Expr)

pattern abbrev pub dot : ℕ → ExprNode → ℕ → ExprNode
dot i a n = Dot' tt (more_of-Expr i a end_of-Expr) n

pattern abbrev pub arrow : ℕ → ExprNode → ℕ → ExprNode
arrow i a n = Arrow' tt (more_of-Expr i a end_of-Expr) n

pattern abbrev pub call : ℕ → ExprNode → (n : List (Unit {0})) → Row_of-Expr (arity (the_former (this {0})) n) → ExprNode
call i f n row = Call' tt (more_of-Expr i f end_of-Expr) n row

pattern abbrev pub cast : List AWord → Base → Declarator → ℕ → ExprNode → ExprNode
cast words b d i a = Cast' tt (more_of-TypeName words b d end_of-TypeName) tt (more_of-Expr i a end_of-Expr)

pattern abbrev pub sizeof_expr : ℕ → ExprNode → ExprNode
sizeof_expr i a = SizeofExpr' tt (more_of-Expr i a end_of-Expr)

pattern abbrev pub sizeof_type : List AWord → Base → Declarator → ExprNode
sizeof_type words b d = SizeofType' tt (more_of-TypeName words b d end_of-TypeName)

pattern abbrev pub alignof_type : List AWord → Base → Declarator → ExprNode
alignof_type words b d = AlignofType' tt (more_of-TypeName words b d end_of-TypeName)

abbrev pub exprs : {n : _} → Row_of-Expr n → List Expr
exprs {n} row = items-the_row-Expr n row

abbrev pub named_type : List AWord → Base → Declarator → TypeName
named_type words b d = record { specs = record { words = words; base = b }; declarator = d }

pub unary_is : (o : UnaryOp) (i : ℕ) (a : ExprNode) → node.Unary o (made i a) ≡ unary o i a
unfolding hidden-the_row-Expr-3 shape-the_row-Expr-3 hidden
unary_is o i a = refl

pub postfix_is : (o : PostOp) (i : ℕ) (a : ExprNode) → node.Postfix o (made i a) ≡ postfix o i a
unfolding hidden-the_row-Expr-3 shape-the_row-Expr-3 hidden
postfix_is o i a = refl

pub binary_is : (o : BinaryOp) (i : ℕ) (a : ExprNode) (j : ℕ) (b : ExprNode) → node.Binary o (made i a) (made j b) ≡ binary o i a j b
unfolding hidden-the_row-Expr-3 shape-the_row-Expr-3 hidden
binary_is o i a j b = refl

pub assign_is : (o : AssignOp) (i : ℕ) (a : ExprNode) (j : ℕ) (b : ExprNode) → node.Assign o (made i a) (made j b) ≡ assign o i a j b
unfolding hidden-the_row-Expr-3 shape-the_row-Expr-3 hidden
assign_is o i a j b = refl

pub cond_is : (i : ℕ) (a : ExprNode) (j : ℕ) (b : ExprNode) (l : ℕ) (c : ExprNode) → node.Cond (made i a) (made j b) (made l c) ≡ cond i a j b l c
unfolding hidden-the_row-Expr-3 shape-the_row-Expr-3 hidden
cond_is i a j b l c = refl

pub index_is : (i : ℕ) (a : ExprNode) (j : ℕ) (b : ExprNode) → node.Index (made i a) (made j b) ≡ index i a j b
unfolding hidden-the_row-Expr-3 shape-the_row-Expr-3 hidden
index_is i a j b = refl

pub dot_is : (i : ℕ) (a : ExprNode) (n : ℕ) → node.Dot (made i a) n ≡ dot i a n
unfolding hidden-the_row-Expr-3 shape-the_row-Expr-3 hidden
dot_is i a n = refl

pub arrow_is : (i : ℕ) (a : ExprNode) (n : ℕ) → node.Arrow (made i a) n ≡ arrow i a n
unfolding hidden-the_row-Expr-3 shape-the_row-Expr-3 hidden
arrow_is i a n = refl

pub comma_is : (n : List (Unit {0})) (row : Row_of-Expr (arity (the_former (this {0})) n)) → node.Comma (exprs row) ≡ Comma' n row
comma_is n row = ap node.Comma (sym (items_shown-the_row-Expr-6 n row)) ∙ (sym (node.rolls-Comma (shown-the_row-Expr-6 n row))
    ∙ (ap roll-ExprNode (sym (node.outs-Comma' n row)) ∙ roll-out-ExprNode (Comma' n row)))

pub call_is : (i : ℕ) (f : ExprNode) (n : List (Unit {0})) (row : Row_of-Expr (arity (the_former (this {0})) n)) →
    node.Call (made i f) (exprs row) ≡ call i f n row
unfolding shown-the_row-Expr-3 shown
call_is i f n row = ap (node.Call (made i f)) (sym (items_shown-the_row-Expr-6 n row)) ∙ (sym (node.rolls-Call (made i f) (shown-the_row-Expr-6 n row))
    ∙ (ap roll-ExprNode (sym (node.outs-Call' tt (more_of-Expr i f end_of-Expr) n row)) ∙ roll-out-ExprNode (call i f n row)))

pub cast_is : (words : List AWord) (b : Base) (d : Declarator) (i : ℕ) (a : ExprNode) → node.Cast (named_type words b d) (made i a) ≡ cast words b d i a
unfolding hidden-the_row-Expr-3 shape-the_row-Expr-3 hidden-the_row-TypeName-7 shape-the_row-TypeName-7 hidden
cast_is words b d i a = refl

pub sizeof_expr_is : (i : ℕ) (a : ExprNode) → node.SizeofExpr (made i a) ≡ sizeof_expr i a
unfolding hidden-the_row-Expr-3 shape-the_row-Expr-3 hidden
sizeof_expr_is i a = refl

pub sizeof_type_is : (words : List AWord) (b : Base) (d : Declarator) → node.SizeofType (named_type words b d) ≡ sizeof_type words b d
unfolding hidden-the_row-TypeName-7 shape-the_row-TypeName-7 hidden
sizeof_type_is words b d = refl

pub alignof_type_is : (words : List AWord) (b : Base) (d : Declarator) → node.AlignofType (named_type words b d) ≡ alignof_type words b d
unfolding hidden-the_row-TypeName-7 shape-the_row-TypeName-7 hidden
alignof_type_is words b d = refl

-- ---- declarators

pattern abbrev pub pointer : List AWord → Declarator → Declarator
pointer words d = Pointer' words tt (more_of-Declarator d end_of-Declarator)

pattern abbrev pub array : Declarator → Declarator
array d = Array' tt (more_of-Declarator d end_of-Declarator) Declarator-Array-1-None'

pattern abbrev pub array_of : Declarator → ℕ → ExprNode → Declarator
array_of d i a = Array' tt (more_of-Declarator d end_of-Declarator) (Declarator-Array-1-Some' tt (more_of-Expr i a end_of-Expr))

pattern abbrev pub function : Declarator → (n : List (Unit {0})) → Row_of-Param (arity (the_former (this {0})) n) → Bool → Declarator
function d n row ellipsis = Function' tt (more_of-Declarator d end_of-Declarator) n row ellipsis

abbrev pub params : {n : _} → Row_of-Param n → List Param
params {n} row = items-the_row-Param n row

pub pointer_is : (words : List AWord) (d : Declarator) → declarator.Pointer words d ≡ pointer words d
unfolding hidden-the_row-Declarator-2 shape-the_row-Declarator-2 hidden
pointer_is words d = refl

pub array_is : (d : Declarator) → declarator.Array d None ≡ array d
unfolding hidden-the_row-Declarator-2 shape-the_row-Declarator-2 hidden
array_is d = refl

pub array_of_is : (d : Declarator) (i : ℕ) (a : ExprNode) → declarator.Array d (Some (made i a)) ≡ array_of d i a
unfolding hidden-the_row-Declarator-2 shape-the_row-Declarator-2 hidden-the_row-Expr-3 shape-the_row-Expr-3 hidden
array_of_is d i a = refl

pub function_is : (d : Declarator) (n : List (Unit {0})) (row : Row_of-Param (arity (the_former (this {0})) n)) (ellipsis : Bool)
    → declarator.Function d (params row) ellipsis ≡ function d n row ellipsis
unfolding shown-the_row-Declarator-2 shown
function_is d n row ellipsis = ap (λ l. declarator.Function d l ellipsis) (sym (items_shown-the_row-Param-4 n row))
    ∙ (sym (declarator.rolls-Function d (shown-the_row-Param-4 n row) ellipsis)
    ∙ (ap roll-Declarator (sym (declarator.outs-Function' tt (more_of-Declarator d end_of-Declarator) n row ellipsis)) ∙ roll-out-Declarator
    (function d n row ellipsis)))

-- ---- members and enumerators

abbrev pub names : {n : _} → Row_of-Declarator n → List Declarator
names {n} row = items-the_row-Declarator n row

abbrev pub members_of : {n : _} → Row_of-MemberEntry n → List MemberEntry
members_of {n} row = items-the_row-MemberEntry n row

abbrev pub enumerators_of : {n : _} → Row_of-Enumerator n → List Enumerator
enumerators_of {n} row = items-the_row-Enumerator n row

abbrev pub specs_with : List AWord → Base → Specs
specs_with words b = record { words = words; base = b }

pub fields_is : (words : List AWord) (b : Base) (n : List (Unit {0})) (row : Row_of-Declarator (arity (the_former (this {0})) n))
    → member-entry.Fields (specs_with words b) (names row) ≡ Fields' words b n row
fields_is words b n row = ap (member-entry.Fields (specs_with words b)) (sym (items_shown-the_row-Declarator-5 n row))
    ∙ (sym (member-entry.rolls-Fields (specs_with words b) (shown-the_row-Declarator-5 n row))
    ∙ (ap roll-MemberEntry (sym (member-entry.outs-Fields' words b n row)) ∙ roll-out-MemberEntry (Fields' words b n row)))

pub assertion_is : (i : ℕ) (a : ExprNode) (message : ℕ) → member-entry.Assertion (made i a) message ≡ Assertion' i a message
assertion_is i a message = refl

pub bare_enumerator_is : (n : ℕ) → roll-Enumerator (record { name = n; value = None }) ≡ Enumerator' n Enumerator-value-None'
unfolding roll-Enumerator roll
bare_enumerator_is n = refl

pub valued_enumerator_is : (n i : ℕ) (a : ExprNode) → roll-Enumerator (record { name = n; value = Some (made i a) }) ≡ Enumerator' n
    (Enumerator-value-Some' i a)
unfolding roll-Enumerator roll
valued_enumerator_is n i a = refl

pub tagged_is : (union : Bool) (tag : Option ℕ) (n : List (Unit {0})) (row : Row_of-MemberEntry (arity (the_former (this {0})) n))
    → base.Tagged union tag (Some (members_of row)) ≡ Tagged' union tag (Base-Tagged-2-Some' n row)
tagged_is union tag n row = ap (λ l. base.Tagged union tag (Some l)) (sym (items_shown-the_row-MemberEntry-0 n row))
    ∙ ap (λ h. Tagged' union tag h) (backs-Base-Tagged-2 (Base-Tagged-2-Some' n row))

pub enumerated_is : (tag : Option ℕ) (n : List (Unit {0})) (row : Row_of-Enumerator (arity (the_former (this {0})) n))
    → base.Enumerated tag (Some (enumerators_of row)) ≡ Enumerated' tag (Base-Enumerated-1-Some' n row)
enumerated_is tag n row = ap (λ l. base.Enumerated tag (Some l)) (sym (items_shown-the_row-Enumerator-1 n row))
    ∙ ap (λ h. Enumerated' tag h) (backs-Base-Enumerated-1 (Base-Enumerated-1-Some' n row))
