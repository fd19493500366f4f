-- The members of a structure or union by name (6.5.2.3p3), and that those of an unnamed structure or union count as members of what
-- contains it, qualified as it is (6.7.2.1p13).
use Rattle.std.specs.Prelude.{ℕ, zero, suc, ◌+◌, Bool, false, ◌||◌, List, [], ◌∷◌, ◌++◌, length, map, slice_get, Option, Some, None, if◌then◌else◌}
use Rattle.std.specs.Str.{bytes_eq}
use Rattle.c_types.specs.Types.{CType, Qualified, struct, union, qualified_of}
use Rattle.c_types.specs.Layout.{member_offset, type_of_member}
use Rattle.c_types.specs.declared.tags.Member.{Member}
use Rattle.c_types.specs.declared.tags.Tag.{Tag}

-- a member, from where it is reached: whether it is const by an unnamed structure or union around it, whatever its own type says
pub record Named : Type 0 where
  pub name : List ℕ
  pub offset : ℕ
  pub qual : Qualified
  pub constant : Bool

abbrev pub farther : ℕ → Named → Named
farther by n = record n { offset = by + n.offset }

-- a member under its own name
abbrev pub itself : Member → Named
itself m = record { name = m.name; offset = 0; qual = qualified_of m.qual; constant = false }

-- members of an unnamed structure or union, which is const or isn't
abbrev pub also_const : Bool → Named → Named
also_const constant n = record n { constant = constant || n.constant }

-- the members of a structure or union
abbrev pub inside : (ℕ → List Named) → CType → List Named
inside of_tag (struct tag) = of_tag tag
inside of_tag (union tag) = of_tag tag
inside of_tag _ = []

abbrev pub if_named : List ℕ → List Named → List Named → List Named
if_named [] own inner = inner
if_named (c ∷ cs) own inner = own

-- what a member brings: itself, or, where it has no name, what is inside it
abbrev pub brought : (ℕ → List Named) → Member → List Named
brought of_tag m = if_named m.name (itself m ∷ []) (map (also_const (qualified_of m.qual).constant) (inside of_tag (type_of_member m)))

-- what the members from a number on bring, from where each stands
abbrev pub member_names : (ℕ → List Named) → List Tag → ℕ → ℕ → List Member → List Named
member_names of_tag tags tag i [] = []
member_names of_tag tags tag i (m ∷ ms) =
    map (farther (member_offset tags tag i)) (brought of_tag m) ++ member_names of_tag tags tag (i + 1) ms

abbrev pub tag_names : (ℕ → List Named) → List Tag → ℕ → Option Tag → List Named
tag_names of_tag tags tag None = []
tag_names of_tag tags tag (Some t) = member_names of_tag tags tag 0 t.members

-- those of a tag with fewer than so many tags one inside the other
abbrev pub names_by : ℕ → List Tag → ℕ → List Named
names_by zero tags tag = []
names_by (suc n) tags tag = tag_names (names_by n tags) tags tag (slice_get tags tag)

-- the members of a structure or union with their names, offsets and types
abbrev pub names : List Tag → ℕ → List Named
names tags tag = names_by (length tags) tags tag

-- where a member stands, its type, and whether what it is reached through makes it const
pub record Place : Type 0 where
  pub offset : ℕ
  pub qual : Qualified
  pub constant : Bool

abbrev pub place : Named → Place
place n = record { offset = n.offset; qual = n.qual; constant = n.constant }

-- the member of a name; the first, if there are several, which 6.7p3 forbids
abbrev pub named : List ℕ → List Named → Option Place
named name [] = None
named name (n ∷ ns) = if bytes_eq n.name name then Some (place n) else named name ns
