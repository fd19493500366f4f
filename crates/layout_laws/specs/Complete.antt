-- Complete types, and their sizes and alignments without a limit (6.2.5p19, 6.2.5p22, 6.5.3.4, 6.7.2.1; the data model is LP64).
use Rattle.std.specs.Prelude.{ℕ, zero, suc, ◌*◌, ◌^◌, Bool, true, false, ◌&&◌, nat_le, List, [], ◌∷◌, length, slice_get, Option, Some, None}
use Rattle.c_types.specs.Types.{CType, void, int, enumeration, pointer, array, struct, union, function}
use Rattle.c_types.specs.Layout.{bytes, extent_of, no_members, rounded, type_of_member, with_member}
use Rattle.c_types.specs.declared.kind.IntKind.TheVariants.{Int}
use Rattle.c_types.specs.declared.tags.TagKind.{TagKind}
use Rattle.c_types.specs.declared.tags.Member.{Member}
use Rattle.c_types.specs.declared.tags.Tag.{Tag}
use Rattle.c_types.specs.declared.tags.Extent.{Extent}

-- whether a type is complete, where it is known of each tag
abbrev pub complete_with : (ℕ → Bool) → CType → Bool
complete_with of_tag void = false
complete_with of_tag (int kind) = true
complete_with of_tag (enumeration tag) = true
complete_with of_tag (pointer constant target) = true
complete_with of_tag (array constant element None) = false
complete_with of_tag (array constant element (Some count)) = complete_with of_tag element
complete_with of_tag (struct tag) = of_tag tag
complete_with of_tag (union tag) = of_tag tag
complete_with of_tag (function result params variadic) = false

abbrev pub all_complete : (ℕ → Bool) → List Member → Bool
all_complete of_tag [] = true
all_complete of_tag (m ∷ ms) = complete_with of_tag (type_of_member m) && all_complete of_tag ms

abbrev pub has_members : List Member → Bool
has_members [] = false
has_members (m ∷ ms) = true

-- a structure or union is complete where it has members, each of a complete type
abbrev pub complete_tag : (ℕ → Bool) → Option Tag → Bool
complete_tag of_tag None = false
complete_tag of_tag (Some tag) = has_members tag.members && all_complete of_tag tag.members

-- with fewer than so many tags one inside the other
abbrev pub complete_by : ℕ → List Tag → ℕ → Bool
complete_by zero tags tag = false
complete_by (suc n) tags tag = complete_tag (complete_by n tags) (slice_get tags tag)

-- whether a type is complete among these tags
abbrev pub is_complete : List Tag → CType → Bool
is_complete tags t = complete_with (complete_by (length tags) tags) t

-- so many of one after another
abbrev pub times : ℕ → Extent → Extent
times count e = extent_of (count * e.size) e.align

-- the extent of a complete type, where that of each tag is known; of another type nothing (own)
abbrev pub whole_with : (ℕ → Extent) → CType → Extent
whole_with of_tag void = no_members
whole_with of_tag (int kind) = extent_of (bytes kind) (bytes kind)
whole_with of_tag (enumeration tag) = extent_of (bytes Int) (bytes Int)
whole_with of_tag (pointer constant target) = extent_of 8 8
whole_with of_tag (array constant element None) = no_members
whole_with of_tag (array constant element (Some count)) = times count (whole_with of_tag element)
whole_with of_tag (struct tag) = of_tag tag
whole_with of_tag (union tag) = of_tag tag
whole_with of_tag (function result params variadic) = no_members

-- behind the members before, these too
abbrev pub whole_members : TagKind → (ℕ → Extent) → Extent → List Member → Extent
whole_members kind of_tag before [] = before
whole_members kind of_tag before (m ∷ ms) =
    whole_members kind of_tag (with_member kind before (whole_with of_tag (type_of_member m))) ms

-- up to a multiple of the alignment
abbrev pub rounded_up : Extent → Extent
rounded_up e = extent_of (rounded e.align e.size) e.align

abbrev pub whole_tag : (ℕ → Extent) → Option Tag → Extent
whole_tag of_tag None = no_members
whole_tag of_tag (Some tag) = rounded_up (whole_members tag.kind of_tag no_members tag.members)

abbrev pub whole_by : ℕ → List Tag → ℕ → Extent
whole_by zero tags tag = no_members
whole_by (suc n) tags tag = whole_tag (whole_by n tags) (slice_get tags tag)

-- the extent of a complete type among these tags
abbrev pub whole_extent : List Tag → CType → Extent
whole_extent tags t = whole_with (whole_by (length tags) tags) t

abbrev pub is_small : Extent → Bool
is_small e = nat_le e.size (2 ^ 40)

-- whether no part of a type has more than 2 ^ 40 bytes, where it is known of each tag
abbrev pub within_with : (ℕ → Bool) → (ℕ → Extent) → CType → Bool
within_with of_tag sizes void = true
within_with of_tag sizes (int kind) = true
within_with of_tag sizes (enumeration tag) = true
within_with of_tag sizes (pointer constant target) = true
within_with of_tag sizes (array constant element None) = true
within_with of_tag sizes (array constant element (Some count)) =
    within_with of_tag sizes element && is_small (times count (whole_with sizes element))
within_with of_tag sizes (struct tag) = of_tag tag
within_with of_tag sizes (union tag) = of_tag tag
within_with of_tag sizes (function result params variadic) = true

abbrev pub all_within : (ℕ → Bool) → (ℕ → Extent) → List Member → Bool
all_within of_tag sizes [] = true
all_within of_tag sizes (m ∷ ms) = within_with of_tag sizes (type_of_member m) && all_within of_tag sizes ms

abbrev pub within_tag : (ℕ → Bool) → (ℕ → Extent) → Option Tag → Bool
within_tag of_tag sizes None = true
within_tag of_tag sizes (Some tag) = all_within of_tag sizes tag.members && is_small (whole_tag sizes (Some tag))

abbrev pub within_by : ℕ → List Tag → ℕ → Bool
within_by zero tags tag = true
within_by (suc n) tags tag = within_tag (within_by n tags) (whole_by n tags) (slice_get tags tag)

-- whether no part of a type has more than 2 ^ 40 bytes
abbrev pub is_within : List Tag → CType → Bool
is_within tags t = within_with (within_by (length tags) tags) (whole_by (length tags) tags) t

abbrev pub only_if : Bool → Extent → Option Extent
only_if true e = Some e
only_if false e = None
