-- What the tables of operators say.
use Rattle.std.proofs.Common.{◌≡◌, ◌+◌, ◌≤◌, Bool, true, false, Option, Some, None, refl, sym, ap, ◌∙◌, arith}
use Rattle.c_lex.specs.declared.token.Mark.{Mark as AMark}
use Rattle.c_lex.specs.declared.token.Mark.TheVariants as m
use Rattle.c_ast.specs.declared.expression.AssignOp.{AssignOp}
use Rattle.c_ast.specs.declared.expression.AssignOp.TheVariants as a
use Rattle.c_ast.specs.declared.expression.BinaryOp.{BinaryOp}
use Rattle.c_ast.specs.declared.expression.BinaryOp.TheVariants as b
use Rattle.c_ast.specs.declared.expression.UnaryOp.{UnaryOp}
use Rattle.c_ast.specs.declared.expression.UnaryOp.TheVariants as u
use Rattle.c_grammar.specs.Operators as op
use Rattle.parse_spec.specs.Expressions.{binary_sign, assignment_sign}
use Rattle.parse_spec.specs.Operators.{binary_op, assign_op, unary_op, tight_mark, tight_of}

-- the punctuator of an operator that was found, and else the punctuator that was looked at
abbrev binary_back : Option BinaryOp → AMark → AMark
binary_back (Some o) mark = op.binary_mark o
binary_back None mark = mark

abbrev assign_back : Option AssignOp → AMark → AMark
assign_back (Some o) mark = op.assign_mark o
assign_back None mark = mark

abbrev unary_back : Option UnaryOp → AMark → AMark
unary_back (Some o) mark = op.unary_mark o
unary_back None mark = mark

binary_same : (mark : AMark) → binary_back (binary_op mark) mark ≡ mark
binary_same m.OpenParen = refl
binary_same _ = refl

assign_same : (mark : AMark) → assign_back (assign_op mark) mark ≡ mark
assign_same m.OpenParen = refl
assign_same _ = refl

unary_same : (mark : AMark) → unary_back (unary_op mark) mark ≡ mark
unary_same m.OpenParen = refl
unary_same _ = refl

pub unary_is : (mark : AMark) (o : UnaryOp) → unary_op mark ≡ Some o → mark ≡ op.unary_mark o
unary_is mark o e = sym (unary_same mark) ∙ ap (λ x. unary_back x mark) e

pub binary_is : (k : Option AMark) (o : BinaryOp) → binary_sign k ≡ Some o → k ≡ Some (op.binary_mark o)
binary_is None o e = absurd (cc)
binary_is (Some mark) o e = ap Some (sym (binary_same mark) ∙ ap (λ x. binary_back x mark) e)

pub assign_is : (lone : Bool) (k : Option AMark) (o : AssignOp) → assignment_sign lone k ≡ Some o → (lone ≡ true) × (k ≡ Some (op.assign_mark o))
assign_is false k o e = absurd (cc)
assign_is true None o e = absurd (cc)
assign_is true (Some mark) o e = (refl, ap Some (sym (assign_same mark) ∙ ap (λ x. assign_back x mark) e))

-- ---- how tightly they bind

tight_binary : (o : BinaryOp) → tight_mark (op.binary_mark o) ≡ op.level_of o + 1
tight_binary b.Or = refl
tight_binary _ = refl

tight_assign : (o : AssignOp) → tight_mark (op.assign_mark o) ≡ 2
tight_assign a.Plain = refl
tight_assign _ = refl

pub tight_binary_is : (k : Option AMark) (o : BinaryOp) → binary_sign k ≡ Some o → tight_of k ≡ op.level_of o + 1
tight_binary_is k o e = ap tight_of (binary_is k o e) ∙ tight_binary o

pub tight_assign_is : (k : Option AMark) (o : AssignOp) → k ≡ Some (op.assign_mark o) → tight_of k ≡ 2
tight_assign_is k o e = ap tight_of e ∙ tight_assign o

pub level_low : (o : BinaryOp) → 3 ≤ op.level_of o
level_low b.Or = omega arith
level_low _ = omega arith

pub level_high : (o : BinaryOp) → op.level_of o ≤ 12
level_high b.Or = omega arith
level_high _ = omega arith

pub operand_high : (o : UnaryOp) → op.operand_level o ≤ 14
operand_high u.Address = omega arith
operand_high _ = omega arith
