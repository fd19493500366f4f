-- The names, literals and keywords in a tree are by the numbers of such tokens.
use Rattle.std.specs.Prelude.{◌≡◌, Some}
use Rattle.c_lex.specs.TokenText.{TokenText}
use Rattle.c_ast.specs.Names.{Names}
use Rattle.c_ast.specs.declared.statement.Unit.{Unit as TheUnit}
use Rattle.parse_spec.specs.Units.{tree_of}

-- each number in the tree of some tokens that stands for a name, a literal or a keyword is that of such a token
abbrev pub TreesName : Type 0
TreesName = (tokens : TokenText) (u : TheUnit) → tree_of tokens ≡ Some u → Names tokens u
