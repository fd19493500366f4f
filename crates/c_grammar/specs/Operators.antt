-- The operators of 6.5 by their punctuators, and the levels of the productions of an expression.
use Rattle.std.specs.Prelude.{ℕ}
use Rattle.c_lex.specs.declared.token.Mark.{Mark}
use Rattle.c_lex.specs.declared.token.Mark.TheVariants as m
use Rattle.c_ast.specs.declared.expression.UnaryOp.{UnaryOp}
use Rattle.c_ast.specs.declared.expression.UnaryOp.TheVariants as u
use Rattle.c_ast.specs.declared.expression.PostOp.{PostOp}
use Rattle.c_ast.specs.declared.expression.PostOp.TheVariants as p
use Rattle.c_ast.specs.declared.expression.BinaryOp.{BinaryOp}
use Rattle.c_ast.specs.declared.expression.BinaryOp.TheVariants as b
use Rattle.c_ast.specs.declared.expression.AssignOp.{AssignOp}
use Rattle.c_ast.specs.declared.expression.AssignOp.TheVariants as a

-- from `expression` up to `primary-expression`; logical-OR is 3, and multiplicative 12

abbrev pub comma : ℕ
comma = 0

abbrev pub assignment : ℕ
assignment = 1

-- a constant expression too (6.6)
abbrev pub conditional : ℕ
conditional = 2

abbrev pub logical_or : ℕ
logical_or = 3

abbrev pub cast : ℕ
cast = 13

abbrev pub unary : ℕ
unary = 14

abbrev pub postfix : ℕ
postfix = 15

abbrev pub primary : ℕ
primary = 16

abbrev pub level_of : BinaryOp → ℕ
level_of b.Or = 3
level_of b.And = 4
level_of b.BitOr = 5
level_of b.BitXor = 6
level_of b.BitAnd = 7
level_of b.Eq = 8
level_of b.Ne = 8
level_of b.Less = 9
level_of b.Greater = 9
level_of b.LessEq = 9
level_of b.GreaterEq = 9
level_of b.Shl = 10
level_of b.Shr = 10
level_of b.Add = 11
level_of b.Sub = 11
level_of b.Mul = 12
level_of b.Div = 12
level_of b.Rem = 12

abbrev pub binary_mark : BinaryOp → Mark
binary_mark b.Or = m.OrOr
binary_mark b.And = m.AndAnd
binary_mark b.BitOr = m.Bar
binary_mark b.BitXor = m.Caret
binary_mark b.BitAnd = m.Ampersand
binary_mark b.Eq = m.EqualEqual
binary_mark b.Ne = m.BangEqual
binary_mark b.Less = m.Less
binary_mark b.Greater = m.Greater
binary_mark b.LessEq = m.LessEqual
binary_mark b.GreaterEq = m.GreaterEqual
binary_mark b.Shl = m.ShiftLeft
binary_mark b.Shr = m.ShiftRight
binary_mark b.Add = m.Plus
binary_mark b.Sub = m.Minus
binary_mark b.Mul = m.Star
binary_mark b.Div = m.Slash
binary_mark b.Rem = m.Percent

abbrev pub assign_mark : AssignOp → Mark
assign_mark a.Plain = m.Equal
assign_mark a.Mul = m.StarEqual
assign_mark a.Div = m.SlashEqual
assign_mark a.Rem = m.PercentEqual
assign_mark a.Add = m.PlusEqual
assign_mark a.Sub = m.MinusEqual
assign_mark a.Shl = m.ShiftLeftEqual
assign_mark a.Shr = m.ShiftRightEqual
assign_mark a.BitAnd = m.AmpersandEqual
assign_mark a.BitXor = m.CaretEqual
assign_mark a.BitOr = m.BarEqual

abbrev pub unary_mark : UnaryOp → Mark
unary_mark u.Address = m.Ampersand
unary_mark u.Deref = m.Star
unary_mark u.Plus = m.Plus
unary_mark u.Minus = m.Minus
unary_mark u.Tilde = m.Tilde
unary_mark u.Not = m.Bang
unary_mark u.Increment = m.PlusPlus
unary_mark u.Decrement = m.MinusMinus

-- `++` and `--` stand before a unary expression, the others before a cast expression (6.5.3)
abbrev pub operand_level : UnaryOp → ℕ
operand_level u.Increment = unary
operand_level u.Decrement = unary
operand_level _ = cast

abbrev pub post_mark : PostOp → Mark
post_mark p.Increment = m.PlusPlus
post_mark p.Decrement = m.MinusMinus
