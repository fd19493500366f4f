-- What stands at an offset of a type (6.2.5p20, 6.5.2.1).
use Rattle.std.specs.Prelude.{◌≡◌, ◌⊎◌, ℕ, List}
use Rattle.c_types.specs.Types.{CType, struct, union, Qualified}
use Rattle.c_types.specs.Layout.{size_of}
use Rattle.c_types.specs.Leaves.{Scalar, scalars_with, scalars_by, repeated_scalars}
use Rattle.c_types.specs.declared.tags.Tag.{Tag}
use Rattle.c_typed.specs.declared.tree.Target.{Target}
use Rattle.c_typed.specs.declared.program.Program.{Program}
use Rattle.c_typed.specs.Lawful.{SuitsSome}

-- the scalars of a type with at most so many tags one inside the other
abbrev pub scalars_within : ℕ → List Tag → CType → List Scalar
scalars_within depth tags t = scalars_with (scalars_by depth tags) tags t

-- an address that suits a scalar at the other offset of the other type suits one at this offset
abbrev pub LooksOn : Program → CType → ℕ → CType → ℕ → Type 0
LooksOn p t at inner further =
    (depth : ℕ) (target : Target) (offset : ℕ) → SuitsSome p target offset further (scalars_within depth p.tags inner) →
    SuitsSome p target offset at (scalars_within depth p.tags t)

-- the scalars of an array of so many elements
abbrev pub elements_within : ℕ → List Tag → Qualified → ℕ → List Scalar
elements_within depth tags element count = repeated_scalars count (size_of tags element.ty) (scalars_within depth tags element.ty)

abbrev pub LooksOnElement : Program → Qualified → ℕ → ℕ → ℕ → Type 0
LooksOnElement p element count at further =
    (depth : ℕ) (target : Target) (offset : ℕ) → SuitsSome p target offset further (scalars_within depth p.tags element.ty) →
    SuitsSome p target offset at (elements_within depth p.tags element count)

-- the structure or union of this number
abbrev pub IsOfTag : CType → ℕ → Type 0
IsOfTag t tag = (t ≡ struct tag) ⊎ (t ≡ union tag)
