-- Structures and unions as plain data: their extents, where their parts stand, and the names of their members (6.2.5p20, 6.7.2.1). The
-- same as in the crates below, over members that are seen (`law_tags`).
use Rattle.std.specs.Prelude.{◌≡◌, ℕ, zero, suc, ◌+◌, ◌*◌, ◌&&◌, ◌||◌, not, Bool, true, false, nat_lt, if◌then◌else◌, List, [], ◌∷◌, ◌++◌}
use Rattle.std.specs.Prelude.{length, map, take, slice_get, Option, Some, None, is_some}
use Rattle.std.specs.Str.{bytes_eq}
use Rattle.c_types.specs.Types.{CType, Params, none, more, void, int, enumeration, pointer, array, struct, union, function, Qualified}
use Rattle.c_types.specs.Layout.{Known, extent, placed, no_members, padded, and_then, offset_behind, size_in, number_in}
use Rattle.c_types.specs.Layout as held_layout
use Rattle.c_types.specs.declared.tags.TagKind.{TagKind}
use Rattle.c_types.specs.declared.tags.Tag.{Tag}
use Rattle.c_types.specs.declared.tags.Member.{Member}
use Rattle.c_types.specs.declared.tags.Extent.{Extent}
use Rattle.c_types.specs.declared.ty.Ty.{Ty}
use Rattle.c_types.specs.declared.ty.Ty.TheVariants as ty
use Rattle.c_types.specs.declared.ty.Qual.{Qual}
use Rattle.c_types.specs.declared.ty.FuncTy.{roll-FuncTy}
use Rattle.layout.specs.Names.{Named, if_named, also_const, farther}
use Rattle.layout.specs.Names as layout
use Rattle.type_operands.specs.Layouts.{Layouts}
use Rattle.typing_env.specs.Seen.{SeenTag, SeenMember, tag_seen}

-- 1. Extents (6.7.2.1p15 to 6.7.2.1p17).

-- behind the members before, these too
abbrev pub members_extent : TagKind → Known → Option Extent → List SeenMember → Option Extent
members_extent kind known before [] = before
members_extent kind known before (m ∷ ms) =
    members_extent kind known (and_then before (λ b. placed kind b (extent known (m.qual).ty))) ms

abbrev pub if_any : List SeenMember → Option Extent → Option Extent
if_any [] e = None
if_any (m ∷ ms) e = e

abbrev pub tag_extent : Known → SeenTag → Option Extent
tag_extent known tag = if_any tag.members (and_then (members_extent tag.kind known (Some no_members) tag.members) padded)

abbrev pub extent_of_tag : Known → Option SeenTag → Option Extent
extent_of_tag known None = None
extent_of_tag known (Some tag) = tag_extent known tag

-- with fewer than so many tags one inside the other
abbrev pub known_by : ℕ → List SeenTag → Known
known_by zero tags tag = None
known_by (suc n) tags tag = extent_of_tag (known_by n tags) (slice_get tags tag)

abbrev pub extents : List SeenTag → Known
extents tags = known_by (length tags) tags

-- the extent of a type, where it is complete (6.2.5p22)
abbrev pub extent_in : List SeenTag → CType → Option Extent
extent_in tags t = extent (extents tags) t

abbrev pub is_complete : List SeenTag → CType → Bool
is_complete tags t = is_some (extent_in tags t)

abbrev pub size_of : List SeenTag → CType → ℕ
size_of tags t = size_in (extent_in tags t)

-- 2. Parts: the elements of an array, the members of a structure or union, by number.

pub record Part : Type 0 where
  pub ty : CType
  pub offset : ℕ

abbrev pub at_offset : CType → Option ℕ → Option Part
at_offset t None = None
at_offset t (Some n) = Some (record { ty = t; offset = n })

abbrev pub element : CType → ℕ → Option Extent → Option Part
element t i None = None
element t i (Some e) = Some (record { ty = t; offset = i * e.size })

abbrev pub extent_of_member : Known → Option SeenMember → Option Extent
extent_of_member known None = None
extent_of_member known (Some m) = extent known (m.qual).ty

-- where a member stands
abbrev pub offset_of : Known → SeenTag → ℕ → Option ℕ
offset_of known tag i =
    offset_behind tag.kind (members_extent tag.kind known (Some no_members) (take i tag.members)) (extent_of_member known (slice_get tag.members i))

abbrev pub offset_in : Known → Option SeenTag → ℕ → Option ℕ
offset_in known None i = None
offset_in known (Some tag) i = offset_of known tag i

abbrev pub member_part : Known → SeenTag → ℕ → Option SeenMember → Option Part
member_part known tag i None = None
member_part known tag i (Some m) = at_offset (m.qual).ty (offset_of known tag i)

abbrev pub part_of_tag : Known → ℕ → Option SeenTag → Option Part
part_of_tag known i None = None
part_of_tag known i (Some tag) = member_part known tag i (slice_get tag.members i)

-- the part of this number; an array of unknown size has as many as one likes
abbrev pub part : List SeenTag → CType → ℕ → Option Part
part tags (array c t None) i = element t i (extent_in tags t)
part tags (array c t (Some n)) i = if nat_lt i n then element t i (extent_in tags t) else None
part tags (struct tag) i = part_of_tag (extents tags) i (slice_get tags tag)
part tags (union tag) i = part_of_tag (extents tags) i (slice_get tags tag)
part tags _ i = None

-- 3. Members by name (6.5.2.3p3): those of an unnamed structure or union count as members of what it stands in, qualified as it is
-- (6.7.2.1p13).

abbrev pub members_in : Option SeenTag → List SeenMember
members_in None = []
members_in (Some t) = t.members

abbrev pub inside : {A : Type 0} → A → (ℕ → A) → CType → A
inside otherwise of_tag (struct tag) = of_tag tag
inside otherwise of_tag (union tag) = of_tag tag
inside otherwise of_tag _ = otherwise

abbrev pub itself : SeenMember → Named
itself m = record { name = m.name; offset = 0; qual = m.qual; constant = false }

-- what a member brings
abbrev pub brought : (ℕ → List Named) → SeenMember → List Named
brought of_tag m = if_named m.name (itself m ∷ []) (map (also_const (m.qual).constant) (layout.inside of_tag (m.qual).ty))

-- what the members from a number on bring, from where each stands
abbrev pub member_names : (ℕ → List Named) → List SeenTag → ℕ → ℕ → List SeenMember → List Named
member_names of_tag tags tag i [] = []
member_names of_tag tags tag i (m ∷ ms) =
    map (farther (number_in (offset_in (extents tags) (slice_get tags tag) i))) (brought of_tag m) ++ member_names of_tag tags tag (i + 1) ms

abbrev pub tag_names : (ℕ → List Named) → List SeenTag → ℕ → Option SeenTag → List Named
tag_names of_tag tags tag None = []
tag_names of_tag tags tag (Some t) = member_names of_tag tags tag 0 t.members

abbrev pub names_by : ℕ → List SeenTag → ℕ → List Named
names_by zero tags tag = []
names_by (suc n) tags tag = tag_names (names_by n tags) tags tag (slice_get tags tag)

abbrev pub names : List SeenTag → ℕ → List Named
names tags tag = names_by (length tags) tags tag

abbrev pub has_name : List ℕ → List Named → Bool
has_name name [] = false
has_name name (n ∷ ns) = bytes_eq n.name name || has_name name ns

-- no name stands for two members (6.2.3p1, 6.7p3)
abbrev pub are_distinct : List Named → Bool
are_distinct [] = true
are_distinct (n ∷ ns) = not (has_name n.name ns) && are_distinct ns

-- the way to a member: the numbers of the unnamed members that it stands in, and its own
abbrev pub or_later : Option (List ℕ) → Option (List ℕ) → Option (List ℕ)
or_later (Some way) other = Some way
or_later None other = other

abbrev pub by_way : ℕ → Option (List ℕ) → Option (List ℕ)
by_way i None = None
by_way i (Some way) = Some (i ∷ way)

abbrev pub way_through : (ℕ → Option (List ℕ)) → SeenMember → List ℕ → List ℕ → Option (List ℕ)
way_through of_tag m name [] = inside None of_tag (m.qual).ty
way_through of_tag m name (c ∷ cs) = if bytes_eq (c ∷ cs) name then Some [] else None

abbrev pub way_among : (ℕ → Option (List ℕ)) → List ℕ → ℕ → List SeenMember → Option (List ℕ)
way_among of_tag name i [] = None
way_among of_tag name i (m ∷ ms) = or_later (by_way i (way_through of_tag m name m.name)) (way_among of_tag name (i + 1) ms)

abbrev pub way_by : ℕ → List SeenTag → List ℕ → ℕ → Option (List ℕ)
way_by zero tags name tag = None
way_by (suc n) tags name tag = way_among (way_by n tags name) name 0 (members_in (slice_get tags tag))

abbrev pub way_to : List SeenTag → List ℕ → CType → Option (List ℕ)
way_to tags name t = inside None (way_by (length tags) tags name) t

-- 4. Const members.

-- which structures and unions have a const member, directly or in a member (6.3.2.1p1)
abbrev pub has_const : (ℕ → Bool) → CType → Bool
has_const of_tag (struct tag) = of_tag tag
has_const of_tag (union tag) = of_tag tag
has_const of_tag (array c t n) = c || has_const of_tag t
has_const of_tag _ = false

abbrev pub some_const : (ℕ → Bool) → List SeenMember → Bool
some_const of_tag [] = false
some_const of_tag (m ∷ ms) = (m.qual).constant || (has_const of_tag (m.qual).ty || some_const of_tag ms)

abbrev pub const_by : ℕ → List SeenTag → ℕ → Bool
const_by zero tags tag = false
const_by (suc n) tags tag = some_const (const_by n tags) (members_in (slice_get tags tag))

abbrev pub constants : List SeenTag → ℕ → Bool
constants tags = const_by (length tags) tags

-- 5. Completion.

-- the tags, this one with these members
abbrev pub completed : List SeenTag → ℕ → List SeenMember → List SeenTag
completed [] tag members = []
completed (t ∷ ts) zero members = record t { members = members } ∷ ts
completed (t ∷ ts) (suc tag) members = t ∷ completed ts tag members

-- what operators ask of structures and unions
abbrev pub layouts_of : List SeenTag → Layouts
layouts_of tags = record { extents = extents tags; names = names tags }

-- 6. As a program holds them, for the definitions of the crates below.

abbrev mutual
  pub ty_of : CType → Ty
  ty_of void = ty.Void
  ty_of (int kind) = ty.Int kind
  ty_of (enumeration tag) = ty.Enum tag
  ty_of (pointer c t) = ty.Pointer (record { ty = ty_of t; constant = c })
  ty_of (array c t n) = ty.Array (record { ty = ty_of t; constant = c }) n
  ty_of (struct tag) = ty.Struct tag
  ty_of (union tag) = ty.Union tag
  ty_of (function r ps v) = ty.Function (roll-FuncTy (record { result = ty_of r; params = quals_of ps; variadic = v }))

  pub quals_of : Params → List Qual
  quals_of none = []
  quals_of (more c t ps) = record { ty = ty_of t; constant = c } ∷ quals_of ps

abbrev pub qual_of : Qualified → Qual
qual_of q = record { ty = ty_of q.ty; constant = q.constant }

abbrev pub member_held : SeenMember → Member
member_held m = record { name = m.name; qual = qual_of m.qual }

abbrev pub tag_held : SeenTag → Tag
tag_held t = record { kind = t.kind; members = map member_held t.members }

abbrev pub held : List SeenTag → List Tag
held tags = map tag_held tags

-- those that are held show these, and have their extents and their members
abbrev pub HeldIsSeen : Type 0
HeldIsSeen = (tags : List SeenTag) → map tag_seen (held tags) ≡ tags

abbrev pub HasExtents : Type 0
HasExtents = (tags : List SeenTag) (tag : ℕ) → held_layout.extents (held tags) tag ≡ extents tags tag

abbrev pub HasNames : Type 0
HasNames = (tags : List SeenTag) (tag : ℕ) → layout.names (held tags) tag ≡ names tags tag
