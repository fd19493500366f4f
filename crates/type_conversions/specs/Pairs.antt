-- Two operands that go together: in their common type (6.3.1.8p1), or a null pointer constant in the other's type (6.3.2.3p3).
use Rattle.std.specs.Prelude.{◌&&◌, if◌then◌else◌}
use Rattle.c_types.specs.declared.kind.IntKind.{IntKind}
use Rattle.c_types.specs.Types.{CType}
use Rattle.c_typed.specs.declared.tree.Typed.{Typed}
use Rattle.type_operands.specs.declared.operand.Form.{Form}
use Rattle.type_operands.specs.Terms.{Term, term_of, type_at, line_at}
use Rattle.type_operands.specs.Conversions.{is_pointer, Balanced}
use Rattle.type_constants.specs.Constants.{null_as, null_pointer}

abbrev pub balanced_of : Typed × Typed × IntKind → Balanced
balanced_of p = record { left = term_of p.0; right = term_of p.1; kind = p.2 }

abbrev pub pair_of : Typed × Typed → Term × Term
pair_of p = (term_of p.0, term_of p.1)

-- a null pointer constant beside a pointer gets its type (6.3.2.3p3, 6.5.9p5)
abbrev pub beside : Form → Term → CType → Term
beside form t other = if is_pointer other && null_as form t then null_pointer other (line_at t) else t

-- two values, by the forms of their operands: the second one beside the first, and the first one beside that
abbrev pub matched : Form → Term → Form → Term → Term × Term
matched f x g y = let z = beside g y (type_at x) in (beside f x (type_at z), z)
