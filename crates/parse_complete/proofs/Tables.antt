-- What the tables of operators say of the punctuators of the grammar.
use Rattle.std.proofs.Common.{◌≡◌, ℕ, ◌+◌, ◌≤◌, false, Option, Some, None, refl, ap, ◌∙◌, arith}
use Rattle.c_lex.specs.declared.token.TokenKind.{TokenKind}
use Rattle.c_lex.specs.declared.token.TokenKind.TheVariants as token
use Rattle.c_lex.specs.declared.token.Mark.{Mark as AMark}
use Rattle.c_lex.specs.declared.token.Mark.TheVariants as m
use Rattle.c_ast.specs.declared.expression.AssignOp.{AssignOp}
use Rattle.c_ast.specs.declared.expression.AssignOp.TheVariants as a
use Rattle.c_ast.specs.declared.expression.BinaryOp.{BinaryOp}
use Rattle.c_ast.specs.declared.expression.BinaryOp.TheVariants as b
use Rattle.c_ast.specs.declared.expression.PostOp.{PostOp}
use Rattle.c_ast.specs.declared.expression.PostOp.TheVariants as p
use Rattle.c_ast.specs.declared.expression.UnaryOp.{UnaryOp}
use Rattle.c_ast.specs.declared.expression.UnaryOp.TheVariants as u
use Rattle.c_ast.specs.Input.{Input, kind}
use Rattle.c_grammar.specs.Operators as op
use Rattle.parse_spec.specs.Steps.{is_mark, is_string, mark_of, same_mark}
use Rattle.parse_spec.specs.Operators.{binary_op, assign_op, tight_mark, tight_of}
use Rattle.parse_spec.specs.Expressions.{tight}

pub binary_op_of : (o : BinaryOp) → binary_op (op.binary_mark o) ≡ Some o
binary_op_of b.Or = refl
binary_op_of _ = refl

pub assign_op_of : (o : AssignOp) → assign_op (op.assign_mark o) ≡ Some o
assign_op_of a.Plain = refl
assign_op_of _ = refl

pub no_binary_op : (o : AssignOp) → binary_op (op.assign_mark o) ≡ None
no_binary_op a.Plain = refl
no_binary_op _ = refl

pub operand_low : (o : UnaryOp) → 13 ≤ op.operand_level o
operand_low u.Address = omega arith
operand_low _ = omega arith

tight_binary : (o : BinaryOp) → tight_mark (op.binary_mark o) ≡ op.level_of o + 1
tight_binary b.Or = refl
tight_binary _ = refl

tight_assign : (o : AssignOp) → tight_mark (op.assign_mark o) ≡ 2
tight_assign a.Plain = refl
tight_assign _ = refl

-- how tightly a punctuator that comes next binds
pub tight_is : (i : Input) (mark : AMark) → kind i ≡ Some (token.Punct mark) → tight i ≡ tight_mark mark
unfolding tight
tight_is i mark e = ap (λ k. tight_of (mark_of k)) e

-- how tightly the next token binds, where a string literal goes on with those before it
abbrev grip_by : Option TokenKind → ℕ
grip_by (Some token.StringLit) = 17
grip_by k = tight_of (mark_of k)

abbrev pub grip : Input → ℕ
grip i = grip_by (kind i)

pub grip_is : (i : Input) (mark : AMark) → kind i ≡ Some (token.Punct mark) → grip i ≡ tight_mark mark
grip_is i mark e = ap grip_by e

grip_tight_by : (k : Option TokenKind) → tight_of (mark_of k) ≤ grip_by k
grip_tight_by (Some token.StringLit) = omega arith
grip_tight_by _ = omega arith

pub grip_tight : (i : Input) → tight i ≤ grip i
unfolding tight
grip_tight i = grip_tight_by (kind i)

no_string_by : (k : Option TokenKind) → grip_by k ≤ 16 → is_string k ≡ false
no_string_by (Some token.StringLit) h = absurd (omega (arith, h))
no_string_by _ h = refl

pub no_string : (i : Input) → grip i ≤ 16 → is_string (kind i) ≡ false
no_string i h = no_string_by (kind i) h

pub tight_post : (o : PostOp) → tight_mark (op.post_mark o) ≡ 16
tight_post p.Increment = refl
tight_post p.Decrement = refl

pub tight_at_binary : (i : Input) (o : BinaryOp) → kind i ≡ Some (token.Punct (op.binary_mark o)) → tight i ≡ op.level_of o + 1
tight_at_binary i o e = tight_is i (op.binary_mark o) e ∙ tight_binary o

pub grip_at_binary : (i : Input) (o : BinaryOp) → kind i ≡ Some (token.Punct (op.binary_mark o)) → grip i ≡ op.level_of o + 1
grip_at_binary i o e = grip_is i (op.binary_mark o) e ∙ tight_binary o

pub grip_at_assign : (i : Input) (o : AssignOp) → kind i ≡ Some (token.Punct (op.assign_mark o)) → grip i ≡ 2
grip_at_assign i o e = grip_is i (op.assign_mark o) e ∙ tight_assign o

pub tight_at_assign : (i : Input) (o : AssignOp) → kind i ≡ Some (token.Punct (op.assign_mark o)) → tight i ≡ 2
tight_at_assign i o e = tight_is i (op.assign_mark o) e ∙ tight_assign o

pub no_question_binary : (o : BinaryOp) → is_mark m.Question (Some (token.Punct (op.binary_mark o))) ≡ false
unfolding same_mark
no_question_binary b.Or = refl
no_question_binary _ = refl

pub no_question_assign : (o : AssignOp) → is_mark m.Question (Some (token.Punct (op.assign_mark o))) ≡ false
unfolding same_mark
no_question_assign a.Plain = refl
no_question_assign _ = refl

pub no_paren_unary : (o : UnaryOp) → is_mark m.OpenParen (Some (token.Punct (op.unary_mark o))) ≡ false
unfolding same_mark
no_paren_unary u.Address = refl
no_paren_unary _ = refl
