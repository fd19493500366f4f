-- Scalars and members as the code lists them.
use Rattle.std.specs.Prelude.{◌-◌, ◌^◌, min, Bool, ◌||◌}
use Rattle.c_types.specs.Types.{type_of, qualified_of}
use Rattle.c_types.specs.Leaves.{Scalar}
use Rattle.layout.specs.declared.leaves.Leaf.{Leaf}
use Rattle.layout.specs.declared.member_names.Found.{Found}
use Rattle.layout.specs.Names.{Place}

abbrev pub scalar_of : Leaf → Scalar
scalar_of l = record { offset = l.offset; ty = type_of l.ty }

abbrev pub place_of : Found → Place
place_of f = record { offset = f.offset; qual = qualified_of f.qual.now; constant = f.constant }

-- an offset is at most the greatest of its type
abbrev pub capped : Scalar → Scalar
capped s = record s { offset = min s.offset (2 ^ 64 - 1) }

abbrev pub nearer : Place → Place
nearer p = record p { offset = min p.offset (2 ^ 64 - 1) }

-- a member of an unnamed structure or union, which is const or isn't
abbrev pub const_place : Bool → Place → Place
const_place constant p = record p { constant = constant || p.constant }
