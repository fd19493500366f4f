-- What the type of an object says of it: how many bytes it has, whether it is defined const, and its form.
use Rattle.std.specs.Prelude.{◌≡◌, Bool, false, ◌||◌, List, Option, Some, None}
use Rattle.c_types.specs.declared.tags.Extent.{Extent}
use Rattle.c_types.specs.declared.tags.Tag.{Tag}
use Rattle.c_types.specs.Layout.{extent, extents}
use Rattle.c_types.specs.Shapes.{Form}
use Rattle.c_types.specs.Types.{CType, array, Qualified}
use Rattle.program_view.specs.Objects.{form_of_type, form_where}

-- the extent of a complete type, one byte elsewhere (own)
abbrev pub extent_or_byte : Option Extent → Extent
extent_or_byte None = record { size = 1; align = 1 }
extent_or_byte (Some e) = e

abbrev pub extent_of : List Tag → CType → Extent
extent_of tags ty = extent_or_byte (extent (extents tags) ty)

-- an array is defined const where its elements are (6.7.3p9)
abbrev pub has_constant_elements : CType → Bool
has_constant_elements (array constant element count) = constant || has_constant_elements element
has_constant_elements _ = false

abbrev pub is_constant : Qualified → Bool
is_constant q = q.constant || has_constant_elements q.ty

-- the form of a complete type, with its scalars at their places (6.5p7)
abbrev pub HasForm : List Tag → CType → Option Form → Type 0
HasForm tags ty form = form ≡ form_where (extent (extents tags) ty) (form_of_type tags ty)
