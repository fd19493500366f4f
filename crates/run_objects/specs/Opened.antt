-- Structures and unions some of whose members are still to be placed, the innermost last.
use Rattle.std.specs.Prelude.{◌≡◌, ℕ, zero, suc, ◌+◌, ◌^◌, ◌≤◌, ◌==◌, Bool, true, false, List, [], ◌∷◌, ◌++◌, drop, slice_get, Option, Some, None}
use Rattle.std.specs.Prelude.{if◌then◌else◌}
use Rattle.c_types.specs.Types.{CType, int, enumeration, pointer, array, struct, union}
use Rattle.c_types.specs.Layout.{extents, number_in, size_of, type_of_member}
use Rattle.c_types.specs.Shapes.{Form, Forms, Put, repeat, place}
use Rattle.c_types.specs.declared.tags.Member.{Member}
use Rattle.c_types.specs.declared.tags.Tag.{Tag}
use Rattle.c_types.specs.declared.tags.Extent.{Extent}
use Rattle.program_view.specs.Objects.{form_with, forms_by, member_forms, moved}
use Rattle.run_objects.specs.declared.shapes.Open.{Open}

-- what an array of one element is made of
abbrev pub single_of : CType → CType
single_of (array c t (Some n)) = if n == 1 then single_of t else array c t (Some n)
single_of t = t

-- the number of a structure or union
abbrev pub tag_in : CType → Option ℕ
tag_in (struct tag) = Some tag
tag_in (union tag) = Some tag
tag_in t = None

-- a scalar, or an array of more than one element
abbrev pub is_placed : CType → Bool
is_placed (int kind) = true
is_placed (enumeration tag) = true
is_placed (pointer c t) = true
is_placed (array c t count) = true
is_placed t = false

-- the form of a type that is no array of one element
abbrev pub opened_form : (ℕ → Forms) → List Tag → CType → Form
opened_form of_tag tags (array c t count) = repeat (number_in count) (size_of tags t) (form_with of_tag tags t)
opened_form of_tag tags t = form_with of_tag tags t

-- parts before others
abbrev pub before : List Put → Forms → Forms
before [] rest = rest
before (p ∷ ps) rest = place p.offset p.part (before ps rest)

-- one opened more, where the depth allows it
abbrev pub entered : ℕ → ℕ → ℕ → List Open → List Open
entered zero tag offset os = os
entered (suc depth) tag offset os = os ++ (record { tag = tag; next = 0; offset = offset; depth = depth }) ∷ []

abbrev pub members_in : Option Tag → List Member
members_in None = []
members_in (Some t) = t.members

-- the members that are still to be placed
abbrev pub left_in : List Tag → Open → List Member
left_in tags o = drop o.next (members_in (slice_get tags o.tag))

-- the parts that one of them still brings, before others
abbrev pub contribution : List Tag → Open → Forms → Forms
contribution tags o rest = moved o.offset (member_forms (forms_by o.depth tags) tags o.tag o.next (left_in tags o)) rest

-- those that all bring, the last first
abbrev pub remaining : List Tag → List Open → Forms → Forms
remaining tags [] rest = rest
remaining tags (o ∷ os) rest = remaining tags os (contribution tags o rest)

-- it ends within 2 ^ 40 bytes
abbrev pub IsRoomy : List Tag → Open → Type 0
IsRoomy tags o = (e : Extent) → extents tags o.tag ≡ Some e → o.offset + e.size ≤ 2 ^ 40

abbrev pub AreRoomy : List Tag → List Open → Type 0
AreRoomy tags [] = Unit {0}
AreRoomy tags (o ∷ os) = IsRoomy tags o × AreRoomy tags os

-- how many steps a type costs, by those of each tag
abbrev pub weight_with : (ℕ → ℕ) → CType → ℕ
weight_with of_tag (array c t n) = 1 + weight_with of_tag t
weight_with of_tag (struct tag) = 1 + of_tag tag
weight_with of_tag (union tag) = 1 + of_tag tag
weight_with of_tag t = 1

abbrev pub members_weight : (ℕ → ℕ) → List Member → ℕ
members_weight of_tag [] = 0
members_weight of_tag (m ∷ ms) = 1 + weight_with of_tag (type_of_member m) + members_weight of_tag ms

abbrev pub weight_by : ℕ → List Tag → ℕ → ℕ
weight_by zero tags tag = 0
weight_by (suc n) tags tag = members_weight (weight_by n tags) (members_in (slice_get tags tag))

abbrev pub open_work : List Tag → Open → ℕ
open_work tags o = 1 + members_weight (weight_by o.depth tags) (left_in tags o)

abbrev pub work : List Tag → List Open → ℕ
work tags [] = 0
work tags (o ∷ os) = work tags os + open_work tags o
