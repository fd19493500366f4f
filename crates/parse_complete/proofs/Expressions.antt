-- What reading finds of each case of an expression.
use Rattle.std.proofs.Common.{
  ◌≡◌,
  ℕ,
  zero,
  suc,
  ◌+◌,
  ◌<◌,
  ◌≤◌,
  Bool,
  true,
  false,
  not,
  ◌&&◌,
  nat_lt,
  List,
  [],
  ◌∷◌,
  ◌++◌,
  Some,
  None,
  refl,
  sym,
  ap,
  ◌∙◌,
  arith,
  append_assoc,
  append-nil,
}
use Rattle.std.proofs.lemmas.Bool.Decides.{nat_tests}
use mathlib.Core.Former.{this, arity}
use Rattle.sqlite_items.specs.formers.items.Items.{the_former}
use Rattle.c_lex.specs.declared.token.TokenKind.TheVariants as token
use Rattle.c_lex.specs.declared.token.Word.{Word as AWord}
use Rattle.c_lex.specs.declared.token.Word.TheVariants as w
use Rattle.c_lex.specs.declared.token.Mark.TheVariants as m
use Rattle.c_ast.specs.declared.declaration.Base.{Base}
use Rattle.c_ast.specs.declared.declaration.Base.TheBlock.{Name, Number, CharLit, Strings as StringsNode, Comma', Row_of-Expr, end_of-Expr, more_of-Expr}
use Rattle.c_ast.specs.declared.declaration.Declarator.{Declarator}
use Rattle.c_ast.specs.declared.expression.Expr.{Expr}
use Rattle.c_ast.specs.declared.expression.ExprNode.{ExprNode}
use Rattle.c_ast.specs.declared.expression.ExprNode.TheVariants as node
use Rattle.c_ast.specs.declared.expression.UnaryOp.{UnaryOp}
use Rattle.c_ast.specs.declared.expression.UnaryOp.TheVariants as u
use Rattle.c_ast.specs.declared.expression.PostOp.{PostOp}
use Rattle.c_ast.specs.declared.expression.PostOp.TheVariants as p
use Rattle.c_ast.specs.declared.expression.BinaryOp.{BinaryOp}
use Rattle.c_ast.specs.declared.expression.AssignOp.{AssignOp}
use Rattle.c_ast.specs.Input.{Input, kind, next}
use Rattle.c_grammar.specs.Operators as op
use Rattle.c_grammar.specs.Grammar.{
  Abstract,
  DeclaratorOperand,
  DeclaratorRule,
  Specifiers,
  BaseRule,
  Spells,
  Arguments,
  Several,
  MoreExprs,
  level as level_of_node,
}
use Rattle.c_grammar.specs.Rules.{Rule, ◌⨾◌, Mark, Operand, is_qualified_word}
use Rattle.parse_spec.specs.Steps.{left, turns, sees, same_mark}
use Rattle.parse_spec.specs.Nested.{expr, declarator, specs}
use Rattle.parse_spec.specs.Places.{begins_type_after}
use Rattle.parse_spec.specs.Expressions.{
  made,
  tight,
  begins_cast,
  name_expr,
  string_expr,
  primary,
  arguments_from,
  argument_list,
  arguments,
  subscript,
  post,
  type_name,
  casted,
  size,
  alignment,
  bracketed,
  operated,
  prefix_by,
  prefix,
  choice,
  assigned,
  joined,
  step,
  operators,
  commas_from,
  commas,
  whole,
  level,
}
use Rattle.parse_sound.proofs.Holding.{sees_of, sees_is}
use Rattle.parse_sound.proofs.Operators.{level_low, level_high, operand_high}
use Rattle.parse_complete.proofs.Declarators.{IsDeclared, declarator_read, declarator_less, declarator_ends}
use Rattle.parse_complete.proofs.Firsts.{expr_opens, no_opening}
use Rattle.parse_complete.proofs.Keeps.{identifier_keeps, arguments_keep}
use Rattle.parse_complete.proofs.Parens.{
  Reaches,
  Found,
  IsRead,
  whole_from,
  reaches_from,
  found_post,
  no_comma,
  operand_post,
  operand_reach,
  operand_less,
  operand_expr,
}
use Rattle.parse_complete.proofs.Runs.{Plain, posts_step, chain_from, climb_stop, climb_step, operators_from}
use Rattle.parse_complete.proofs.Specifiers.{qualified_tags, IsSpecified, specifiers_less, specs_begin}
use Rattle.parse_complete.proofs.Steps.{mark_takes, word_takes, expect_of, eat_yes, eat_no, sees_by, sees_not}
use Rattle.parse_complete.proofs.Tables.{
  grip,
  grip_is,
  grip_tight,
  no_string,
  tight_is,
  tight_post,
  tight_at_binary,
  tight_at_assign,
  grip_at_binary,
  grip_at_assign,
  binary_op_of,
  assign_op_of,
  no_binary_op,
  operand_low,
  no_question_binary,
  no_question_assign,
  no_paren_unary,
}
use Rattle.parse_complete.proofs.Trees.{
  unary,
  postfix,
  binary,
  assign,
  cond,
  index,
  dot,
  arrow,
  call,
  cast,
  sizeof_expr,
  sizeof_type,
  alignof_type,
  exprs,
  named_type,
  unary_is,
  postfix_is,
  binary_is,
  assign_is,
  cond_is,
  index_is,
  dot_is,
  arrow_is,
  comma_is,
  call_is,
  cast_is,
  sizeof_expr_is,
  sizeof_type_is,
  alignof_type_is,
}
use Rattle.parse_complete.proofs.Words.{identifier_read, strings_read}

-- a node that is no postfix expression, but is reached
found_reach : (a : ExprNode) (i : ℕ) → level_of_node a < 15 → 1 ≤ level_of_node a → Reaches a i 0 → Found a i 0
found_reach a i below above r = record {
  posts = λ may. absurd (omega arith);
  reaches = r;
  whole = whole_from a i 0 above r;
}

-- ---- primary expressions

no_cast : (s : Input) → sees m.OpenParen s ≡ false → begins_cast s ≡ false
no_cast s h = rw h refl

name_plain : (d : ℕ) (s : Input) → kind s ≡ Some token.Name → Plain d s
unfolding prefix same_mark
name_plain d s is = record { plain = λ least. rw is refl; lone = no_cast s (sees_by m.OpenParen s _ is refl) }

number_plain : (d : ℕ) (s : Input) → kind s ≡ Some token.Number → Plain d s
unfolding prefix same_mark
number_plain d s is = record { plain = λ least. rw is refl; lone = no_cast s (sees_by m.OpenParen s _ is refl) }

char_plain : (d : ℕ) (s : Input) → kind s ≡ Some token.CharLit → Plain d s
unfolding prefix same_mark
char_plain d s is = record { plain = λ least. rw is refl; lone = no_cast s (sees_by m.OpenParen s _ is refl) }

string_plain : (d : ℕ) (s : Input) → kind s ≡ Some token.StringLit → Plain d s
unfolding prefix same_mark
string_plain d s is = record { plain = λ least. rw is refl; lone = no_cast s (sees_by m.OpenParen s _ is refl) }

pub name_found : (n : ℕ) → IsRead (Name n)
unfolding primary name_expr
name_found n i = found_post (Name n) i 0 (omega arith) (omega arith) (λ _ s t (e, (known, (number, (is, after)))) stop d le f t2 go.
    (name_plain d s is, chain_from d s (made i (Name n)) t f t2 (rw (is, known, e, number, after) refl) go))

pub number_found : (n : ℕ) → IsRead (Number n)
unfolding primary
number_found n i = found_post (Number n) i 0 (omega arith) (omega arith) (λ _ s t (e, (number, (is, after))) stop d le f t2 go.
    (number_plain d s is, chain_from d s (made i (Number n)) t f t2 (rw (is, e, number, after) refl) go))

pub char_found : (n : ℕ) → IsRead (CharLit n)
unfolding primary
char_found n i = found_post (CharLit n) i 0 (omega arith) (omega arith) (λ _ s t (e, (number, (is, after))) stop d le f t2 go.
    (char_plain d s is, chain_from d s (made i (CharLit n)) t f t2 (rw (is, e, number, after) refl) go))

pub strings_found : (n count : ℕ) → IsRead (StringsNode n count)
unfolding primary string_expr
strings_found n zero i = found_post (StringsNode n zero) i 0 (omega arith) (omega arith) (λ _ s t h stop d le f t2 go. absurd h.1)
strings_found n (suc count) i = found_post (StringsNode n (suc count)) i 0 (omega arith) (omega arith) (λ _ s t h stop d le f t2 go.
    let is = h.1.1.1.0.0 in (
      string_plain d s is,
      chain_from d s (made i (StringsNode n (suc count))) t f t2 (rw (is, strings_read n (suc count) s t h.1 (no_string t stop), h.0, h.1.0) refl) go,
    ))

-- ---- postfix expressions

post_of : (d : ℕ) (o : PostOp) (at : ℕ) (e : Expr) (s : Input) → kind s ≡ Some (token.Punct (op.post_mark o))
    → post (expr d) (declarator d) (specs d) at e s ≡ Some (made at (node.Postfix o e), next s)
unfolding post
post_of d p.Increment at e s is = rw is refl
post_of d p.Decrement at e s is = rw is refl

pub postfix_found : (o : PostOp) (j : ℕ) (a : ExprNode) → IsRead a → IsRead (postfix o j a)
postfix_found o j a c i = found_post (postfix o j a) i 0 (omega arith) (omega arith) (λ _ s t (e, (x, (h, mark))) stop d le f t2 go.
    let wide : tight x ≡ 16 = tight_is x (op.post_mark o) mark.0 ∙ tight_post o in
    let here : grip x ≡ 16 = grip_is x (op.post_mark o) mark.0 ∙ tight_post o in
    let read : post (expr d) (declarator d) (specs d) s.at (made j a) x ≡ Some (made i (postfix o j a), t) =
    post_of d o s.at (made j a) x mark.0 ∙ rw (e, mark.1, postfix_is o j a) refl in
    operand_post a c j s x h (omega arith) d le f t2
    (posts_step d s.at (made j a) x (made i (postfix o j a)) t f t2 (omega arith) read (mark_takes (op.post_mark o) x t mark) go))

pub index_found : (j : ℕ) (a : ExprNode) (l : ℕ) (b : ExprNode) → IsRead a → IsRead b → IsRead (index j a l b)
unfolding post subscript
index_found j a l b c c2 i = found_post (index j a l b) i 0 (omega arith) (omega arith)
    (λ _ s t (e, (x, (h, (y, (before, (z, (g, behind))))))) stop d le f t2 go.
    let wide = tight_is x m.OpenBracket before.0 in
    let here = grip_is x m.OpenBracket before.0 in
    let p1 = operand_less a c j 15 s x h in
    let p2 = mark_takes m.OpenBracket x y before in
    let p3 = operand_less b c2 l 0 y z g in
    let p4 = mark_takes m.CloseBracket z t behind in
    let last = grip_is z m.CloseBracket behind.0 in
    let inner = operand_expr b c2 l 0 (omega arith) y z g (omega arith) (omega arith) d (omega arith) in
    let read : post (expr d) (declarator d) (specs d) s.at (made j a) x ≡ Some (made i (index j a l b), t) =
    rw (before.0, ← before.1, inner, expect_of m.CloseBracket z behind.0, e, behind.1, index_is j a l b) refl in
    operand_post a c j s x h (omega arith) d le f t2 (posts_step d s.at (made j a) x (made i (index j a l b)) t f t2 (omega arith) read (omega arith) go))

pub dot_found : (j : ℕ) (a : ExprNode) (n : ℕ) → IsRead a → IsRead (dot j a n)
unfolding post
dot_found j a n c i = found_post (dot j a n) i 0 (omega arith) (omega arith) (λ _ s t (e, (x, (h, (y, (mark, name))))) stop d le f t2 go.
    let wide = tight_is x m.Dot mark.0 in
    let here = grip_is x m.Dot mark.0 in
    let p2 = mark_takes m.Dot x y mark in
    let p3 = (identifier_keeps n).keeps y t name in
    let read : post (expr d) (declarator d) (specs d) s.at (made j a) x ≡ Some (made i (dot j a n), t) =
    rw (mark.0, ← mark.1, identifier_read n y t name, e, dot_is j a n) refl in
    operand_post a c j s x h (omega arith) d le f t2 (posts_step d s.at (made j a) x (made i (dot j a n)) t f t2 (omega arith) read (omega arith) go))

pub arrow_found : (j : ℕ) (a : ExprNode) (n : ℕ) → IsRead a → IsRead (arrow j a n)
unfolding post
arrow_found j a n c i = found_post (arrow j a n) i 0 (omega arith) (omega arith) (λ _ s t (e, (x, (h, (y, (mark, name))))) stop d le f t2 go.
    let wide = tight_is x m.Arrow mark.0 in
    let here = grip_is x m.Arrow mark.0 in
    let p2 = mark_takes m.Arrow x y mark in
    let p3 = (identifier_keeps n).keeps y t name in
    let read : post (expr d) (declarator d) (specs d) s.at (made j a) x ≡ Some (made i (arrow j a n), t) =
    rw (mark.0, ← mark.1, identifier_read n y t name, e, arrow_is j a n) refl in
    operand_post a c j s x h (omega arith) d le f t2 (posts_step d s.at (made j a) x (made i (arrow j a n)) t f t2 (omega arith) read (omega arith) go))

-- ---- prefix operators

unary_at : (d : ℕ) (o : UnaryOp) (at least : ℕ) (s : Input) → kind s ≡ Some (token.Punct (op.unary_mark o))
    → prefix_by (expr d) (declarator d) (specs d) at least (kind s) s ≡ operated (expr d) (declarator d) (specs d) at o s
unary_at d u.Address at least s is = rw is refl
unary_at d u.Deref at least s is = rw is refl
unary_at d u.Plus at least s is = rw is refl
unary_at d u.Minus at least s is = rw is refl
unary_at d u.Tilde at least s is = rw is refl
unary_at d u.Not at least s is = rw is refl
unary_at d u.Increment at least s is = rw is refl
unary_at d u.Decrement at least s is = rw is refl

pub unary_found : (o : UnaryOp) (j : ℕ) (a : ExprNode) → IsRead a → IsRead (unary o j a)
unfolding prefix operated
unary_found o j a c i = found_reach (unary o j a) i (omega arith) (omega arith) (reaches_from (unary o j a) i 0 (λ s t (e, (x, (mark, h))) stop d le least.
    let p1 = mark_takes (op.unary_mark o) s x mark in
    let high = operand_high o in
    let low = operand_low o in
    let inner = operand_expr a c j (op.operand_level o) high x t h (omega arith) stop d (omega arith) in (
      unary_at d o s.at least s mark.0 ∙ rw (← mark.1, inner, e, unary_is o j a) refl,
      no_cast s (sees_by m.OpenParen s _ mark.0 (no_paren_unary o)),
    )))

-- ---- binary operators, the conditional operator, assignment

binary_step : (d : ℕ) (o : BinaryOp) (at : ℕ) (lone : Bool) (left_one right : Expr) (s x t : Input) → Mark (op.binary_mark o) s x →
    expr d (op.level_of o + 1) x ≡ Some (right, t)
    → step (expr d) (declarator d) (specs d) at lone left_one s ≡ Some (made at (node.Binary o left_one right), t)
unfolding step joined
binary_step d o at lone left_one right s x t mark inner =
    let none = sees_by m.Question s _ mark.0 (no_question_binary o) in
    rw (none, eat_no m.Question s none, mark.0, binary_op_of o, ← mark.1, inner) refl

pub binary_found : (o : BinaryOp) (j : ℕ) (a : ExprNode) (l : ℕ) (b : ExprNode) → IsRead a → IsRead b → IsRead (binary o j a l b)
binary_found o j a l b c c2 i =
    let low = level_low o in
    let high = level_high o in
    found_reach (binary o j a l b) i (omega arith) (omega arith) (λ own first last may s t (e, (x, (h, (y, (mark, g))))) ends d le least le2 f t2 go.
    let wide = tight_at_binary x o mark.0 in
    let here = grip_at_binary x o mark.0 in
    let p1 = operand_less a c j (op.level_of o) s x h in
    let p2 = mark_takes (op.binary_mark o) x y mark in
    let p3 = operand_less b c2 l (op.level_of o + 1) y t g in
    let inner = operand_expr b c2 l (op.level_of o + 1) (omega arith) y t g (omega (arith, ends.above)) ends.within d (omega arith) in
    operand_reach a c j (op.level_of o) (omega arith) (omega arith) s x h
    (record { within = omega arith; above = omega arith; low = λ k. absurd (omega arith) }) d le least (omega arith) f t2 (λ lone _.
    climb_step d least s.at lone (made j a) x (made i (binary o j a l b)) t f t2 (omega arith)
    (binary_step d o s.at lone (made j a) (made l b) x y t mark inner ∙ rw (e, binary_is o j a l b) refl) (omega arith)
    (go false (λ k. absurd (omega arith)))))

pub cond_found : (j : ℕ) (a : ExprNode) (l : ℕ) (b : ExprNode) (q : ℕ) (z : ExprNode) → IsRead a → IsRead b → IsRead z → IsRead (cond j a l b q z)
unfolding step choice
cond_found j a l b q z c c2 c3 i =
    found_reach (cond j a l b q z) i (omega arith) (omega arith)
    (λ own first last may s t (e, (x, (h, (y, (mark, (v, (g, (n, (colon, k))))))))) ends d le least le2 f t2 go.
    let wide = tight_is x m.Question mark.0 in
    let here = grip_is x m.Question mark.0 in
    let p1 = operand_less a c j 3 s x h in
    let p2 = mark_takes m.Question x y mark in
    let p3 = operand_less b c2 l 0 y v g in
    let p4 = mark_takes m.Colon v n colon in
    let p5 = operand_less z c3 q 2 n t k in
    let stop = grip_is v m.Colon colon.0 in
    let inner = operand_expr b c2 l 0 (omega arith) y v g (omega arith) (omega arith) d (omega arith) in
    let last2 = ends.low (omega arith) in
    let inner2 = operand_expr z c3 q 2 (omega arith) n t k (omega arith) ends.within d (omega arith) in
    operand_reach a c j 3 (omega arith) (omega arith) s x h (record { within = omega arith; above = omega arith; low = λ r. absurd (omega arith) }) d le least
    (omega arith) f t2 (λ lone _.
    climb_step d least s.at lone (made j a) x (made i (cond j a l b q z)) t f t2 (omega arith)
    (rw (sees_of m.Question x mark.0, eat_yes m.Question x mark.0, ← mark.1, inner, expect_of m.Colon v colon.0, ← colon.1, inner2, e, cond_is j a l b q z)
    refl)
    (omega arith) (go false (λ r. absurd (omega arith)))))

assign_step : (d : ℕ) (o : AssignOp) (at : ℕ) (left_one right : Expr) (s x t : Input) → Mark (op.assign_mark o) s x → expr d 1 x ≡ Some (right, t)
    → step (expr d) (declarator d) (specs d) at true left_one s ≡ Some (made at (node.Assign o left_one right), t)
unfolding step joined assigned
assign_step d o at left_one right s x t mark inner =
    let none = sees_by m.Question s _ mark.0 (no_question_assign o) in
    rw (none, eat_no m.Question s none, mark.0, no_binary_op o, mark.0, assign_op_of o, ← mark.1, inner) refl

pub assign_found : (o : AssignOp) (j : ℕ) (a : ExprNode) (l : ℕ) (b : ExprNode) → IsRead a → IsRead b → IsRead (assign o j a l b)
assign_found o j a l b c c2 i =
    found_reach (assign o j a l b) i (omega arith) (omega arith) (λ own first last may s t (e, (x, (h, (y, (mark, g))))) ends d le least le2 f t2 go.
    let wide = tight_at_assign x o mark.0 in
    let here = grip_at_assign x o mark.0 in
    let p1 = operand_less a c j 14 s x h in
    let p2 = mark_takes (op.assign_mark o) x y mark in
    let p3 = operand_less b c2 l 1 y t g in
    let last2 = ends.low (omega arith) in
    let inner = operand_expr b c2 l 1 (omega arith) y t g (omega arith) ends.within d (omega arith) in
    operand_reach a c j 14 (omega arith) (omega arith) s x h (record { within = omega arith; above = omega arith; low = λ k. absurd (omega arith) }) d le
    least (omega arith) f t2 (λ lone only.
    climb_step d least s.at lone (made j a) x (made i (assign o j a l b)) t f t2 (omega arith)
    (ap (λ b0. step (expr d) (declarator d) (specs d) s.at b0 (made j a) x) (only (omega arith)) ∙
    (assign_step d o s.at (made j a) (made l b) x y t mark inner ∙ rw (e, assign_is o j a l b) refl))
    (omega arith) (go false (λ k. absurd (omega arith)))))

-- ---- lists of expressions

abbrev pub AreRead : {n : _} → Row_of-Expr n → Type 0
AreRead end_of-Expr = Unit {0}
AreRead (more_of-Expr i a row) = IsRead a × AreRead row

-- an assignment expression in a list with commas
operand_one : (a : ExprNode) → IsRead a → (i : ℕ) (s t : Input) → Operand 1 (level_of_node a) i (Spells a) s t → grip t ≤ 1 → (d : ℕ) → left s ≤ d
    → operators (expr d) (declarator d) (specs d) 1 s ≡ Some (made i a, t)
operand_one a c i s t h stop d le =
    operand_reach a c i 1 (omega arith) (omega arith) s t h (record { within = omega arith; above = omega arith; low = λ _. stop }) d le 1 (omega arith) _ t
    (λ lone _. climb_stop d 1 s.at lone (made i a) t (omega (arith, grip_tight t)))

more_end : {n : _} (row : Row_of-Expr n) (s t : Input) → MoreExprs row s t → grip t ≤ 0 → grip s ≤ 1
more_end end_of-Expr s t h stop = let same : grip t ≡ grip s = ap grip h in omega arith
more_end (more_of-Expr i a row) s t h stop = omega (arith, grip_is s m.Comma h.1.0.0)

-- one or more arguments
arguments_found : {n : _} (i : ℕ) (a : ExprNode) (row : Row_of-Expr n) → IsRead a → AreRead row →
    (s x t : Input) → Operand 1 (level_of_node a) i (Spells a) s x
    → MoreExprs row x t → grip t ≤ 0 → (d : ℕ) → left s < d → (n : ℕ) → left s < n → (found : List Expr)
    → arguments_from (expr d) (declarator d) (specs d) n found s ≡ Some (found ++ made i a ∷ exprs row, t)
unfolding arguments_from
arguments_found i a row c cs s x t h g stop d le zero lt found = absurd (omega arith)
arguments_found i a end_of-Expr c cs s x t h g stop d le (suc n) lt found =
    let same : grip t ≡ grip x = ap grip g in
    let inner = operand_expr a c i 1 (omega arith) s x h (omega arith) (omega arith) d le in
    let none = no_comma x (omega arith) in
    rw (inner, none, eat_no m.Comma x none, g) refl
arguments_found i a (more_of-Expr j b row) c cs s x t h g stop d le (suc n) lt found =
    let comma = g.1.0 in
    let wide = grip_is x m.Comma comma.0 in
    let p1 = operand_less a c i 1 s x h in
    let p2 = mark_takes m.Comma x g.0 comma in
    let inner = operand_expr a c i 1 (omega arith) s x h (omega arith) (omega arith) d le in
    let rest = arguments_found j b row cs.0 cs.1 g.0 g.1.1.0 t g.1.1.1.0 g.1.1.1.1 stop d (omega arith) n (omega arith) (found ++ made i a ∷ []) in
    rw (inner, sees_of m.Comma x comma.0, eat_yes m.Comma x comma.0, ← comma.1, rest)
    (ap (λ l. Some (l, t)) (append_assoc found (made i a ∷ []) (made j b ∷ exprs row)))

list_found : {n : _} (row : Row_of-Expr n) → AreRead row → (s t t2 : Input) → Arguments row s t → Mark m.CloseParen t t2 → (d : ℕ) → left s < d
    → arguments (expr d) (declarator d) (specs d) s ≡ Some (exprs row, t2)
unfolding arguments argument_list
list_found end_of-Expr cs s t t2 h behind d le =
    let here = ap kind (sym h) ∙ behind.0 in
    rw (sees_of m.CloseParen s here, eat_yes m.CloseParen s here, ← h, behind.1) refl
list_found (more_of-Expr i a row) cs s t t2 h behind d le =
    let last = grip_is t m.CloseParen behind.0 in
    let found = arguments_found i a row cs.0 cs.1 s h.0 t h.1.0 h.1.1 (omega arith) d le (turns s) (omega arith) [] in
    let low = more_end row h.0 t h.1.1 (omega arith) in
    let first = operand_expr a cs.0 i 1 (omega arith) s h.0 h.1.0 low (omega (arith, low)) d le in
    let none = sees_not m.CloseParen s (no_opening m.CloseParen s refl (expr_opens d 1 s (made i a, h.0) first)) in
    rw (none, eat_no m.CloseParen s none, found, expect_of m.CloseParen t behind.0, behind.1) refl

pub call_found : (j : ℕ) (f : ExprNode) (n : List (Unit {0})) (row : Row_of-Expr (arity (the_former (this {0})) n)) → IsRead f → AreRead row →
    IsRead (call j f n row)
unfolding post
call_found j f n row c cs i = found_post (call j f n row) i 0 (omega arith) (omega arith)
    (λ _ s t (e, (x, (h, (y, (before, (z, (g, behind))))))) stop d le r t2 go.
    let wide = tight_is x m.OpenParen before.0 in
    let here = grip_is x m.OpenParen before.0 in
    let p1 = operand_less f c j 15 s x h in
    let p2 = mark_takes m.OpenParen x y before in
    let p3 = (arguments_keep row).keeps y z g in
    let p4 = mark_takes m.CloseParen z t behind in
    let inner = list_found row cs y z t g behind d (omega arith) in
    let read : post (expr d) (declarator d) (specs d) s.at (made j f) x ≡ Some (made i (call j f n row), t) =
    rw (before.0, ← before.1, inner, e, call_is j f n row) refl in
    operand_post f c j s x h (omega arith) d le r t2 (posts_step d s.at (made j f) x (made i (call j f n row)) t r t2 (omega arith) read (omega arith) go))

-- the rest of a list with commas
commas_found : {n : _} (row : Row_of-Expr n) → AreRead row → (s t : Input) → MoreExprs row s t → grip t ≤ 0 → (d : ℕ) → left s ≤ d → (at n : ℕ) → left s < n →
    (found : List Expr)
    → commas_from (expr d) (declarator d) (specs d) at n found s ≡ Some (made at (node.Comma (found ++ exprs row)), t)
unfolding commas_from
commas_found row cs s t g stop d le at zero lt found = absurd (omega arith)
commas_found end_of-Expr cs s t g stop d le at (suc n) lt found =
    let same : grip t ≡ grip s = ap grip g in
    let none = no_comma s (omega arith) in
    rw (none, eat_no m.Comma s none, g) (ap (λ l. Some (made at (node.Comma l), s)) (sym (append-nil found)))
commas_found (more_of-Expr j b row) cs s t h stop d le at (suc n) lt found =
    let comma = h.1.0 in
    let p1 = mark_takes m.Comma s h.0 comma in
    let p2 = operand_less b cs.0 j 1 h.0 h.1.1.0 h.1.1.1.0 in
    let item = operand_one b cs.0 j h.0 h.1.1.0 h.1.1.1.0 (more_end row h.1.1.0 t h.1.1.1.1 stop) d (omega arith) in
    let rest = commas_found row cs.1 h.1.1.0 t h.1.1.1.1 stop d (omega arith) at n (omega arith) (found ++ made j b ∷ []) in
    rw (sees_of m.Comma s comma.0, eat_yes m.Comma s comma.0, ← comma.1, item, rest)
    (ap (λ l. Some (made at (node.Comma l), t)) (append_assoc found (made j b ∷ []) (exprs row)))

-- at least two, of which the first is at hand
several_found : {n : _} (row : Row_of-Expr n) → AreRead row → (s t : Input) → Several row s t → grip t ≤ 0 → (d : ℕ) → left s ≤ d
    → whole (expr d) (declarator d) (specs d) s ≡ Some (made s.at (node.Comma (exprs row)), t)
unfolding whole commas
several_found end_of-Expr cs s t h stop d le = absurd h
several_found (more_of-Expr i a end_of-Expr) cs s t h stop d le = absurd h.1.1
several_found (more_of-Expr i a (more_of-Expr j b row)) cs s t h stop d le =
    let comma = h.1.1.1.0 in
    let wide = grip_is h.0 m.Comma comma.0 in
    let p1 = operand_less a cs.0 i 1 s h.0 h.1.0 in
    let first = operand_one a cs.0 i s h.0 h.1.0 (omega arith) d le in
    let rest = commas_found (more_of-Expr j b row) cs.1 h.0 t h.1.1 stop d (omega arith) s.at (turns h.0) (omega arith) (made i a ∷ []) in
    rw (first, sees_of m.Comma h.0 comma.0, rest) refl

pub comma_found : (n : List (Unit {0})) (row : Row_of-Expr (arity (the_former (this {0})) n)) → AreRead row → IsRead (Comma' n row)
comma_found n row cs i = record {
  posts = λ may. absurd (omega arith);
  reaches = λ l low high may. absurd (omega arith);
  whole = λ s t h stop d le.
      several_found row cs s t h.1 stop d le ∙ ap (λ e. Some (e, t)) (ap (made s.at) (comma_is n row) ∙ ap (λ at. made at (Comma' n row)) (sym h.0));
}

-- ---- type names

abbrev TypeRule : List AWord → Base → Declarator → Rule
TypeRule words b e = Specifiers is_qualified_word b (BaseRule b) words ⨾ DeclaratorOperand Abstract 0 e (DeclaratorRule e Abstract)

abbrev InParens : List AWord → Base → Declarator → Rule
InParens words b e = Mark m.OpenParen ⨾ TypeRule words b e ⨾ Mark m.CloseParen

type_read : (words : List AWord) (b : Base) (e : Declarator) → IsSpecified b words → IsDeclared e → (s t : Input) → InParens words b e s t →
    (d : ℕ) → left s ≤ d
    → type_name (expr d) (declarator d) (specs d) s ≡ Some (named_type words b e, t)
unfolding type_name
type_read words b e c c2 s t (x, (before, (y, ((z, (h, g)), behind)))) d le =
    let p1 = mark_takes m.OpenParen s x before in
    let p2 = specifiers_less is_qualified_word b words x z h in
    let head = c is_qualified_word qualified_tags x z h (declarator_ends e Abstract 0 z y g (rw behind.0 refl)) d (omega arith) in
    let name = declarator_read e c2 Abstract z y g (rw behind.0 refl) d (omega arith) in
    rw (expect_of m.OpenParen s before.0, ← before.1, head, name, expect_of m.CloseParen y behind.0, behind.1) refl

type_less : (words : List AWord) (b : Base) (e : Declarator) (s t : Input) → InParens words b e s t → left t < left s
type_less words b e s t (x, (before, (y, ((z, (h, g)), behind)))) =
    omega (
      arith,
      mark_takes m.OpenParen s x before,
      specifiers_less is_qualified_word b words x z h,
      declarator_less Abstract 0 e z y g,
      mark_takes m.CloseParen y t behind,
    )

type_begins : (words : List AWord) (b : Base) (e : Declarator) (s t : Input) → InParens words b e s t → begins_type_after s ≡ true
type_begins words b e s t (x, (before, (y, ((z, (h, g)), behind)))) = rw (← before.1) (specs_begin is_qualified_word b words x z h)

cast_refused : (d : ℕ) (s : Input) → kind s ≡ Some (token.Punct m.OpenParen) → begins_type_after s ≡ true → expr d 14 s ≡ None
unfolding expr level operators prefix bracketed
cast_refused zero s h b = refl
cast_refused (suc d) s h b = rw (h, b) refl

no_type_case : (d : ℕ) (s : Input) (p0 : Expr × Input) (x y : Bool) → expr d 14 s ≡ Some p0 → sees m.OpenParen s ≡ x → begins_type_after s ≡ y →
    (x && y) ≡ false
no_type_case d s p0 false y h is type = refl
no_type_case d s p0 true false h is type = refl
no_type_case d s p0 true true h is type = absurd (let g = sym h ∙ cast_refused d s (sees_is m.OpenParen s is) type in cc)

operand_no_type : (d : ℕ) (s : Input) (p0 : Expr × Input) → expr d 14 s ≡ Some p0 → begins_cast s ≡ false
operand_no_type d s p0 h = no_type_case d s p0 (sees m.OpenParen s) (begins_type_after s) h refl refl

pub cast_found : (words : List AWord) (b : Base) (e : Declarator) (j : ℕ) (a : ExprNode) → IsSpecified b words → IsDeclared e → IsRead a →
    IsRead (cast words b e j a)
unfolding prefix bracketed casted
cast_found words b e j a c c2 c3 i =
    found_reach (cast words b e j a) i (omega arith) (omega arith)
    (λ own first last may s t (at, (x, (before, (y, (type, (z, (behind, h))))))) ends d le least le2 f t2 go.
    let whole_type : InParens words b e s z = (x, (before, (y, (type, behind)))) in
    let to = type_read words b e c c2 s z whole_type d le in
    let p1 = type_less words b e s z whole_type in
    let inner = operand_expr a c3 j 13 (omega arith) z t h ends.within ends.within d (omega arith) in
    let begins = type_begins words b e s z whole_type in
    let low : least ≤ 13 = omega arith in
    let may2 : nat_lt 13 least ≡ false = grind (arith, nat_tests, low) in
    let read : prefix (expr d) (declarator d) (specs d) least s ≡ Some (made i (cast words b e j a), t) =
    rw (before.0, begins, may2, to, inner, at, cast_is words b e j a) refl in
    operators_from d least s (made i (cast words b e j a)) t f t2 read (go (not (begins_cast s)) (λ k. absurd (omega arith))))

pub sizeof_expr_found : (j : ℕ) (a : ExprNode) → IsRead a → IsRead (sizeof_expr j a)
unfolding prefix size same_mark
sizeof_expr_found j a c i = found_reach (sizeof_expr j a) i (omega arith) (omega arith)
    (reaches_from (sizeof_expr j a) i 0 (λ s t (e, (x, (word, h))) stop d le least.
    let p1 = word_takes w.Sizeof s x word in
    let inner = operand_expr a c j 14 (omega arith) x t h (omega arith) stop d (omega arith) in
    let none = operand_no_type d x (made j a, t) inner in
    (rw (word.0, ← word.1, none, inner, e, sizeof_expr_is j a) refl, no_cast s (sees_by m.OpenParen s _ word.0 refl))))

begins_a_cast : (words : List AWord) (b : Base) (e : Declarator) (s t : Input) → InParens words b e s t → begins_cast s ≡ true
begins_a_cast words b e s t h = rw (sees_of m.OpenParen s h.1.0.0, type_begins words b e s t h) refl

pub sizeof_type_found : (words : List AWord) (b : Base) (e : Declarator) → IsSpecified b words → IsDeclared e → IsRead (sizeof_type words b e)
unfolding prefix size same_mark
sizeof_type_found words b e c c2 i = found_reach (sizeof_type words b e) i (omega arith) (omega arith)
    (reaches_from (sizeof_type words b e) i 0 (λ s t (at, (x, (word, h))) stop d le least.
    let p1 = word_takes w.Sizeof s x word in
    let of = type_read words b e c c2 x t h d (omega arith) in
    (rw (word.0, ← word.1, begins_a_cast words b e x t h, of, at, sizeof_type_is words b e) refl, no_cast s (sees_by m.OpenParen s _ word.0 refl))))

pub alignof_type_found : (words : List AWord) (b : Base) (e : Declarator) → IsSpecified b words → IsDeclared e → IsRead (alignof_type words b e)
unfolding prefix alignment same_mark
alignof_type_found words b e c c2 i = found_reach (alignof_type words b e) i (omega arith) (omega arith)
    (reaches_from (alignof_type words b e) i 0 (λ s t (at, (x, (word, h))) stop d le least.
    let p1 = word_takes w.Alignof s x word in
    let of = type_read words b e c c2 x t h d (omega arith) in
    (rw (word.0, ← word.1, of, at, alignof_type_is words b e) refl, no_cast s (sees_by m.OpenParen s _ word.0 refl))))
