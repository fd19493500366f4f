-- The structures and unions by number, each with its extent from its completion on.
use Rattle.std.specs.Prelude.{◌≡◌, ℕ, ◌+◌, ◌≤◌, List, [], ◌∷◌, map, slice_get, Option, Some, None}
use Rattle.std.specs.List.{All}
use Rattle.c_types.specs.declared.tags.Tag.{Tag}
use Rattle.c_types.specs.declared.tags.Member.{Member}
use Rattle.c_types.specs.declared.tags.Row.{Row}
use Rattle.c_types.specs.declared.tags.Extent.{Extent}
use Rattle.c_types.specs.Layout.{Known, known_by, extent_of_tag, extents, IsSoundWhere}

abbrev pub tag_of : Row → Tag
tag_of row = row.tag

abbrev pub extent_in : Option Row → Option Extent
extent_in None = None
extent_in (Some row) = row.extent

-- what the rows know of each tag
abbrev pub look : List Row → Known
look rows tag = extent_in (slice_get rows tag)

abbrev pub IsSoundRow : Row → Type 0
IsSoundRow row = IsSoundWhere row.extent

abbrev pub IsTable : List Row → Type 0
IsTable rows = All IsSoundRow rows

abbrev pub counted : List Member → ℕ
counted [] = 0
counted (m ∷ ms) = 1

-- how many tags have members
abbrev pub completions : List Tag → ℕ
completions [] = 0
completions (t ∷ ts) = counted t.members + completions ts

-- the rows have the extents of their tags: with as many tags one inside the other as have members, nothing more is known
pub record IsLaid (rows : List Row) : Type 0 where
  pub sound : IsTable rows
  pub settled : (n : ℕ) → completions (map tag_of rows) ≤ n → (tag : ℕ) → known_by n (map tag_of rows) tag ≡ look rows tag
  pub filled : (tag : ℕ) (t : Tag) → slice_get (map tag_of rows) tag ≡ Some t → look rows tag ≡ None → t.members ≡ []

-- each tag's extent is that of its members, and a tag without one has no members
pub record IsSettled (tags : List Tag) : Type 0 where
  pub known : (tag : ℕ) → extents tags tag ≡ extent_of_tag (extents tags) (slice_get tags tag)
  pub filled : (tag : ℕ) (t : Tag) → slice_get tags tag ≡ Some t → extents tags tag ≡ None → t.members ≡ []
