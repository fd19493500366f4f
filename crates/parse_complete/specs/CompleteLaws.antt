-- What tokens spell is read of them.
use Rattle.std.specs.Prelude.{◌≡◌, Some, None}
use Rattle.c_lex.specs.TokenText.{TokenText}
use Rattle.c_ast.specs.declared.statement.Unit.{Unit as TheUnit}
use Rattle.c_grammar.specs.Grammar.{SpellsUnit}
use Rattle.parse_spec.specs.Units.{tree_of}

-- the tree that tokens spell is the one that is read of them
abbrev pub TreesAreRead : Type 0
TreesAreRead = (tokens : TokenText) (u : TheUnit) → SpellsUnit u tokens → tree_of tokens ≡ Some u

-- tokens spell one tree at most
abbrev pub TreesAreUnique : Type 0
TreesAreUnique = (tokens : TokenText) (u v : TheUnit) → SpellsUnit u tokens → SpellsUnit v tokens → u ≡ v

-- where no tree is read of tokens, they spell none
abbrev pub RefusedIsUnspelled : Type 0
RefusedIsUnspelled = (tokens : TokenText) (u : TheUnit) → tree_of tokens ≡ None → SpellsUnit u tokens → ⊥
