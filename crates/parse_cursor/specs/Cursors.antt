-- What holds of the fields of a cursor.
use Rattle.std.specs.Prelude.{◌≡◌, ℕ, ◌≤◌, List, All, length}
use Rattle.c_lex.specs.TokenText.{TokenText}
use Rattle.parse_cursor.specs.Declarations.{InScope, IsWithin}
use Rattle.parse_cursor.specs.declared.scope.Declared.{Declared}
use Rattle.c_spelling.specs.Spelling.{IsSpelling}
use Rattle.parse_cursor.specs.Spelling.{AreNumbered}

pub record IsCursor (t : TokenText) (at : ℕ) (spelled : List ℕ) (scope : InScope) (prototype : List Declared) : Type 0 where
  pub within : at ≤ length t.list
  pub spelling : IsSpelling t spelled
  pub count : scope.count ≡ length t.list
  pub numbered : AreNumbered spelled scope.names
  pub kept : All (IsWithin t) prototype
