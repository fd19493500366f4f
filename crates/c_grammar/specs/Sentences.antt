-- Sentences that are in the grammar, and one that isn't.
use Rattle.std.specs.Prelude.{ℕ, List, [], ◌∷◌, Some, None, codes, false}
use Rattle.c_lex.specs.TokenText.{TokenText}
use Rattle.c_lex.specs.declared.token.Token.{Token}
use Rattle.c_lex.specs.declared.token.TokenKind.{TokenKind}
use Rattle.c_lex.specs.declared.token.TokenKind.TheVariants as token
use Rattle.c_lex.specs.declared.token.Word.TheVariants as w
use Rattle.c_lex.specs.declared.token.Mark.TheVariants as m
use Rattle.c_ast.specs.declared.declaration.Base.TheVariants as base
use Rattle.c_ast.specs.declared.declaration.Declarator.TheVariants as declarator
use Rattle.c_ast.specs.declared.statement.Unit.{Unit as TheUnit}
use Rattle.c_ast.specs.declared.statement.UnitEntry.TheVariants as unit
use Rattle.c_grammar.specs.Grammar.{SpellsUnit}

abbrev pub token_at : TokenKind → ℕ → ℕ → Token
token_at kind start end = record { kind = kind; start = start; end = end; line = 1 }

-- `;`
abbrev pub semicolon : TokenText
semicolon = record { source = codes ";"; list = token_at (token.Punct m.Semicolon) 0 1 ∷ [] }

abbrev pub empty_entry : TheUnit
empty_entry = record { entries = unit.Empty ∷ [] }

-- `int x;`
abbrev pub int_x : TokenText
int_x = record { source = codes "int x;"; list = token_at (token.Keyword w.Int) 0 3 ∷ token_at token.Name 4 5 ∷ token_at (token.Punct m.Semicolon) 5 6 ∷ [] }

abbrev pub declared_x : TheUnit
declared_x = record {
  entries = unit.Declaration (record {
    specs = record { words = w.Int ∷ []; base = base.Plain };
    parts = record { declarator = declarator.Ident (Some 1); init = None } ∷ [];
  }) ∷ [];
}

-- `)`
abbrev pub parenthesis : TokenText
parenthesis = record { source = codes ")"; list = token_at (token.Punct m.CloseParen) 0 1 ∷ [] }

pub record Sentences : Type 0 where
  pub empty_file : SpellsUnit (record { entries = [] }) (record { source = []; list = [] })
  pub lone_semicolon : SpellsUnit empty_entry semicolon
  pub declaration : SpellsUnit declared_x int_x
  pub no_parenthesis : (u : TheUnit) → SpellsUnit u parenthesis → ⊥
