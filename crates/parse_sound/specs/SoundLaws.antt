-- The tree that is read of tokens is one that they spell.
use Rattle.std.specs.Prelude.{◌≡◌, Some}
use Rattle.c_lex.specs.TokenText.{TokenText}
use Rattle.c_ast.specs.declared.statement.Unit.{Unit as TheUnit}
use Rattle.c_grammar.specs.Grammar.{SpellsUnit}
use Rattle.parse_spec.specs.Units.{tree_of}

-- the tokens of which a tree is read spell it, all of them, by the grammar of translation units
abbrev pub TreesSpell : Type 0
TreesSpell = (tokens : TokenText) (u : TheUnit) → tree_of tokens ≡ Some u → SpellsUnit u tokens
