-- The sizes of types by their layout, which compatible types share.
use Rattle.std.specs.Prelude.{◌≡◌, Bool, ℕ, false, List, Option, Some, None}
use Rattle.c_types.specs.Types.{CType, function, Compatible}
use Rattle.c_types.specs.Layout.{extent, extents}
use Rattle.c_types.specs.declared.tags.Extent.{Extent}
use Rattle.c_types.specs.declared.tags.Tag.{Tag}
use Rattle.c_typed.specs.Lawful.{IsNoArray, AreNoArrays}
use Rattle.value_laws.specs.Sizes.{Sizes, Keeps, result_size}
use Rattle.value_laws.specs.Parameters.{Passes}

abbrev pub size_in : Option Extent → Option ℕ
size_in None = None
size_in (Some e) = Some e.size

-- the size of each complete type among these tags (6.2.5p1, 6.5.3.4)
abbrev pub laid_out : List Tag → Sizes
laid_out tags ty = size_in (extent (extents tags) ty)

-- a function type that gives and takes no arrays (6.7.6.3p1, 6.7.6.3p7)
abbrev pub IsUsual : CType → Type 0
IsUsual (function result params variadic) = IsNoArray result × AreNoArrays params
IsUsual ty = ⊥

abbrev pub has_ellipsis : CType → Bool
has_ellipsis (function result params variadic) = variadic
has_ellipsis ty = false

-- So a function is called through a compatible type with arguments and a result of its sizes (6.5.2.2p9, 6.7.6.3p15).
pub record CallKeeps (size : Sizes) (fun by : CType) : Type 0 where
  pub gives : Keeps (result_size size fun) (result_size size by)
  pub takes : has_ellipsis fun ≡ false → Passes size by fun

abbrev pub CompatibleCallsKeep : Type 0
CompatibleCallsKeep = (tags : List Tag) (fun by : CType) → IsUsual fun → Compatible fun by → CallKeeps (laid_out tags) fun by
