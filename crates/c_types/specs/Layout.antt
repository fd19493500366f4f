-- The sizes and alignments of types (6.2.8, 6.5.3.4, 6.7.2.1; the data model is LP64).
use Rattle.std.specs.Prelude.{
  ℕ,
  zero,
  suc,
  ◌+◌,
  ◌-◌,
  ◌*◌,
  ◌/◌,
  ◌%◌,
  ◌^◌,
  ◌<◌,
  ◌≤◌,
  max,
  nat_le,
  List,
  [],
  ◌∷◌,
  take,
  length,
  slice_get,
  Option,
  Some,
  None,
  if◌then◌else◌,
}
use Rattle.c_types.specs.Kinds.{width}
use Rattle.c_types.specs.declared.kind.IntKind.{IntKind}
use Rattle.c_types.specs.declared.kind.IntKind.TheVariants.{Bool as Boolean, Int}
use Rattle.c_types.specs.declared.tags.TagKind.{TagKind}
use Rattle.c_types.specs.declared.tags.TagKind.TheVariants.{Struct, Union}
use Rattle.c_types.specs.declared.tags.Member.{Member}
use Rattle.c_types.specs.declared.tags.Tag.{Tag}
use Rattle.c_types.specs.declared.tags.Extent.{Extent}
use Rattle.c_types.specs.Types.{CType, void, int, enumeration, pointer, array, struct, union, function, qualified_of}

-- what is known of each tag
abbrev pub Known : Type 0
Known = ℕ → Option Extent

abbrev pub extent_of : ℕ → ℕ → Extent
extent_of size align = record { size = size; align = align }

abbrev pub scalar : ℕ → Option Extent
scalar size = Some (extent_of size size)

abbrev pub bytes : IntKind → ℕ
bytes Boolean = 1
bytes kind = width kind / 8

-- no type has more than 2 ^ 40 bytes (own)
abbrev pub limited : Extent → Option Extent
limited e = if nat_le e.size (2 ^ 40) then Some e else None

-- the least multiple of the alignment that isn't below the offset
abbrev pub rounded : ℕ → ℕ → ℕ
rounded align offset = offset + (align - offset % align) % align

-- an array is its count times its element (6.5.3.4p4, 6.2.5p20)
abbrev pub repeated : ℕ → Option Extent → Option Extent
repeated count None = None
repeated count (Some e) = limited (extent_of (count * e.size) e.align)

-- the extent of a type, or none where it is incomplete
abbrev pub extent : Known → CType → Option Extent
extent known void = None
extent known (int kind) = scalar (bytes kind)
extent known (enumeration tag) = scalar (bytes Int)
extent known (pointer constant target) = scalar 8
extent known (array constant element None) = None
extent known (array constant element (Some count)) = repeated count (extent known element)
extent known (struct tag) = known tag
extent known (union tag) = known tag
extent known (function result params variadic) = None

-- where a member stands behind those before it; a union's members stand at 0 (6.7.2.1p15, 6.7.2.1p16)
abbrev pub offset : TagKind → Extent → Extent → ℕ
offset Struct before member = rounded member.align before.size
offset Union before member = 0

-- the members up to this one
abbrev pub with_member : TagKind → Extent → Extent → Extent
with_member kind before member =
    extent_of (max before.size (offset kind before member + member.size)) (max before.align member.align)

abbrev pub no_members : Extent
no_members = extent_of 0 1

abbrev pub and_then : Option Extent → (Extent → Option Extent) → Option Extent
and_then None next = None
and_then (Some e) next = next e

-- one member more
abbrev pub placed : TagKind → Extent → Option Extent → Option Extent
placed kind before None = None
placed kind before (Some member) = limited (with_member kind before member)

abbrev pub type_of_member : Member → CType
type_of_member m = (qualified_of m.qual).ty

-- behind the members before, these too
abbrev pub members_extent : TagKind → Known → Option Extent → List Member → Option Extent
members_extent kind known before [] = before
members_extent kind known before (m ∷ ms) =
    members_extent kind known (and_then before (λ b. placed kind b (extent known (type_of_member m)))) ms

-- the size is rounded up to the greatest alignment (6.7.2.1p17)
abbrev pub padded : Extent → Option Extent
padded e = limited (extent_of (rounded e.align e.size) e.align)

abbrev pub if_any : List Member → Option Extent → Option Extent
if_any [] e = None
if_any (m ∷ ms) e = e

-- a structure or union, by what is known of the tags
abbrev pub tag_extent : Known → Tag → Option Extent
tag_extent known tag =
    if_any tag.members (and_then (members_extent tag.kind known (Some no_members) tag.members) padded)

abbrev pub extent_of_tag : Known → Option Tag → Option Extent
extent_of_tag known None = None
extent_of_tag known (Some tag) = tag_extent known tag

-- what is known of the tags with fewer than so many tags one inside the other
abbrev pub known_by : ℕ → List Tag → Known
known_by zero tags tag = None
known_by (suc n) tags tag = extent_of_tag (known_by n tags) (slice_get tags tag)

-- the extent of each tag; a tag is complete where it has one (6.2.5p22, 6.7.2.1p3)
abbrev pub extents : List Tag → Known
extents tags = known_by (length tags) tags

abbrev pub offset_behind : TagKind → Option Extent → Option Extent → Option ℕ
offset_behind kind (Some before) (Some member) = Some (offset kind before member)
offset_behind kind _ _ = None

abbrev pub extent_of_member : Known → Option Member → Option Extent
extent_of_member known None = None
extent_of_member known (Some m) = extent known (type_of_member m)

-- the offset of a member of a tag
abbrev pub offset_of : Known → Tag → ℕ → Option ℕ
offset_of known tag member =
    offset_behind tag.kind (members_extent tag.kind known (Some no_members) (take member tag.members))
    (extent_of_member known (slice_get tag.members member))

-- the same of a tag that may be there
abbrev pub offset_in : Known → Option Tag → ℕ → Option ℕ
offset_in known None member = None
offset_in known (Some tag) member = offset_of known tag member

abbrev pub size_in : Option Extent → ℕ
size_in None = 0
size_in (Some e) = e.size

abbrev pub align_in : Option Extent → ℕ
align_in None = 1
align_in (Some e) = e.align

abbrev pub number_in : Option ℕ → ℕ
number_in None = 0
number_in (Some n) = n

-- the size of a type among these tags; 0 where it is incomplete (own)
abbrev pub size_of : List Tag → CType → ℕ
size_of tags t = size_in (extent (extents tags) t)

-- its alignment; 1 where it is incomplete (own)
abbrev pub align_of : List Tag → CType → ℕ
align_of tags t = align_in (extent (extents tags) t)

-- the offset of a member; 0 where there is none (own)
abbrev pub member_offset : List Tag → ℕ → ℕ → ℕ
member_offset tags tag member = number_in (offset_in (extents tags) (slice_get tags tag) member)

-- the tags, this one with these members
abbrev pub completed : List Tag → ℕ → List Member → List Tag
completed [] tag members = []
completed (t ∷ ts) zero members = record t { members = members } ∷ ts
completed (t ∷ ts) (suc tag) members = t ∷ completed ts tag members

-- what every extent of the data model keeps
pub record IsSound (e : Extent) : Type 0 where
  pub least : 0 < e.align
  pub most : e.align ≤ 8
  pub small : e.size ≤ 2 ^ 40

abbrev pub IsSoundWhere : Option Extent → Type 0
IsSoundWhere None = Unit {0}
IsSoundWhere (Some e) = IsSound e
