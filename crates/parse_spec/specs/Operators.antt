-- The operator that a punctuator is, and how tightly it binds what stands before it (6.5).
use Rattle.std.specs.Prelude.{ℕ, ◌+◌, Option, Some, None}
use Rattle.c_lex.specs.declared.token.Mark.{Mark}
use Rattle.c_lex.specs.declared.token.Mark.TheVariants as m
use Rattle.c_ast.specs.declared.expression.UnaryOp.{UnaryOp}
use Rattle.c_ast.specs.declared.expression.UnaryOp.TheVariants as u
use Rattle.c_ast.specs.declared.expression.BinaryOp.{BinaryOp}
use Rattle.c_ast.specs.declared.expression.BinaryOp.TheVariants as b
use Rattle.c_ast.specs.declared.expression.AssignOp.{AssignOp}
use Rattle.c_ast.specs.declared.expression.AssignOp.TheVariants as a
use Rattle.c_grammar.specs.Operators as op

abbrev pub binary_op : Mark → Option BinaryOp
binary_op m.OrOr = Some b.Or
binary_op m.AndAnd = Some b.And
binary_op m.Bar = Some b.BitOr
binary_op m.Caret = Some b.BitXor
binary_op m.Ampersand = Some b.BitAnd
binary_op m.EqualEqual = Some b.Eq
binary_op m.BangEqual = Some b.Ne
binary_op m.Less = Some b.Less
binary_op m.Greater = Some b.Greater
binary_op m.LessEqual = Some b.LessEq
binary_op m.GreaterEqual = Some b.GreaterEq
binary_op m.ShiftLeft = Some b.Shl
binary_op m.ShiftRight = Some b.Shr
binary_op m.Plus = Some b.Add
binary_op m.Minus = Some b.Sub
binary_op m.Star = Some b.Mul
binary_op m.Slash = Some b.Div
binary_op m.Percent = Some b.Rem
binary_op _ = None

abbrev pub assign_op : Mark → Option AssignOp
assign_op m.Equal = Some a.Plain
assign_op m.StarEqual = Some a.Mul
assign_op m.SlashEqual = Some a.Div
assign_op m.PercentEqual = Some a.Rem
assign_op m.PlusEqual = Some a.Add
assign_op m.MinusEqual = Some a.Sub
assign_op m.ShiftLeftEqual = Some a.Shl
assign_op m.ShiftRightEqual = Some a.Shr
assign_op m.AmpersandEqual = Some a.BitAnd
assign_op m.CaretEqual = Some a.BitXor
assign_op m.BarEqual = Some a.BitOr
assign_op _ = None

abbrev pub unary_op : Mark → Option UnaryOp
unary_op m.Ampersand = Some u.Address
unary_op m.Star = Some u.Deref
unary_op m.Plus = Some u.Plus
unary_op m.Minus = Some u.Minus
unary_op m.Tilde = Some u.Tilde
unary_op m.Bang = Some u.Not
unary_op m.PlusPlus = Some u.Increment
unary_op m.MinusMinus = Some u.Decrement
unary_op _ = None

-- One more than the level of what a punctuator and what stands before it make, and 0 for one that goes on with nothing.
abbrev pub tight_by : Option BinaryOp → Option AssignOp → ℕ
tight_by (Some o) assigned = op.level_of o + 1
tight_by None (Some o) = op.assignment + 1
tight_by None None = 0

abbrev pub tight_mark : Mark → ℕ
tight_mark m.OpenParen = op.postfix + 1
tight_mark m.OpenBracket = op.postfix + 1
tight_mark m.Dot = op.postfix + 1
tight_mark m.Arrow = op.postfix + 1
tight_mark m.PlusPlus = op.postfix + 1
tight_mark m.MinusMinus = op.postfix + 1
tight_mark m.Comma = op.comma + 1
tight_mark m.Question = op.conditional + 1
tight_mark mark = tight_by (binary_op mark) (assign_op mark)

abbrev pub tight_of : Option Mark → ℕ
tight_of (Some mark) = tight_mark mark
tight_of None = 0
