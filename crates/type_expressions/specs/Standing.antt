-- What operators ask of the structures and unions that are declared (6.3.2.1p1, 6.5.2.3p1, 6.5.3.4p1).
use Rattle.std.specs.Prelude.{◌≡◌, ℕ, map, Option}
use Rattle.c_types.specs.Types.{CType}
use Rattle.c_types.specs.declared.tags.Extent.{Extent}
use Rattle.type_operands.specs.Layouts.{Layouts}
use Rattle.typing_env.specs.Seen.{tag_seen}
use Rattle.typing_words.specs.Tags.{layouts_of, extent_in, constants}
use Rattle.type_scope.specs.Tagged.{has_constant}
use Rattle.type_scope.specs.declared.state.State.{State}

-- their extents, and their members by name
abbrev pub layouts_in : State → Layouts
layouts_in state = layouts_of (map tag_seen state.tags)

-- the extent of a type, where it is complete
abbrev pub extent_of : State → CType → Option Extent
extent_of state ty = extent_in (map tag_seen state.tags) ty

-- the state tells which of them have a const member
abbrev pub TellsConstants : State → Type 0
TellsConstants state = (tag : ℕ) → has_constant state tag ≡ constants (map tag_seen state.tags) tag
