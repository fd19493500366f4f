-- What may stand where.
use Rattle.std.specs.Prelude.{ℕ, ◌+◌, Bool}
use Rattle.c_lex.specs.declared.token.Word.{Word}
use Rattle.c_ast.specs.declared.expression.BinaryOp.{BinaryOp}
use Rattle.c_grammar.specs.Operators.{level_of}
use Rattle.c_grammar.specs.Grammar as grammar
use Rattle.c_grammar.specs.Rules.{is_declaration_word, is_qualified_word}
use Rattle.parse_cursor.specs.declared.place.Mode.{Mode}
use Rattle.parse_cursor.specs.declared.place.Mode.TheVariants as mode
use Rattle.parse_cursor.specs.declared.place.Place.{Place}
use Rattle.parse_cursor.specs.declared.place.Place.TheVariants as place

abbrev pub mode_of : Mode → grammar.Mode
mode_of mode.Named = grammar.Named
mode_of mode.Abstract = grammar.Abstract
mode_of mode.Either = grammar.Either

-- the keywords that are specifiers by themselves
abbrev pub allowed_in : Place → Word → Bool
allowed_in place.Declaration = is_declaration_word
allowed_in place.Qualified = is_qualified_word

-- Binary operators group from the left (6.5.5 to 6.5.14): the left operand may be of the operator's own level, the right one
-- only of a tighter one.
abbrev pub right_level : BinaryOp → ℕ
right_level op = level_of op + 1
