-- Declarations by the numbers of their tokens.
use Rattle.std.specs.Prelude.{◌≡◌, ℕ, ◌<◌, List, length, slice_index, All}
use Rattle.parse_cursor.specs.declared.scope.Named.{Named}

-- a declaration's name is the number of its token
pub record IsNumbered (spelled : List ℕ) (x : Named) : Type 0 where
  pub within : x.declared.at < length spelled
  pub name : x.name ≡ slice_index spelled x.declared.at

abbrev pub AreNumbered : List ℕ → List Named → Type 0
AreNumbered spelled names = All (IsNumbered spelled) names
