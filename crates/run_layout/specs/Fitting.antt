-- How objects are stored to and filled, where each node of the full expressions is lawful in that (6.3, 6.5.16, 6.7.9).
use Rattle.std.specs.Prelude.{List, [], ◌∷◌}
use Rattle.std.specs.List.{All}
use Rattle.c_types.specs.Types.{CType, type_of}
use Rattle.c_typed.specs.declared.program.Constant.{Constant}
use Rattle.c_typed.specs.declared.program.Program.{Program}
use Rattle.c_typed.specs.declared.tree.Access.{Access}
use Rattle.c_typed.specs.declared.tree.Access.TheVariants as access
use Rattle.c_typed.specs.declared.tree.Node.TheOpen as shape
use Rattle.c_typed.specs.declared.tree.Typed.{Typed, out-Typed}
use Rattle.c_typed.specs.Lawful.{IsPointer, ContentIsLawful}
use Rattle.c_typed.specs.Sites.{Head, Site, sites}
use Rattle.run_layout.specs.declared.nodes.NodeInfo.{NodeInfo}
use Rattle.run_layout.specs.declared.steps.StoreCode.{StoreCode}
use Rattle.run_layout.specs.declared.tables.Tables.{Tables}
use Rattle.run_layout.specs.EventActs.{head_at, pointed, first_type, change_access}

-- a pointer is stored by its own type
abbrev pub AccessFits : Access → CType → Type 0
AccessFits access.Pointer ty = IsPointer ty
AccessFits access.Function ty = IsPointer ty
AccessFits _ ty = Unit {0}

abbrev pub AreLawful : Program → List Constant → Type 0
AreLawful p = All (λ c. ContentIsLawful p c.content)

-- how a node stores to an object of this type, or the constants that it fills one with
abbrev pub HeadFits : Program → Head → CType → Type 0
HeadFits p (shape.Assign first how) object = AccessFits how object
HeadFits p (shape.Update c old) object = AccessFits (change_access c) object
HeadFits p (shape.List slot bytes) object = AreLawful p bytes
HeadFits p _ object = Unit {0}

abbrev pub first_operand : CType → List CType → CType
first_operand ty [] = ty
first_operand ty (t ∷ ts) = t

abbrev pub SiteFits : Program → Site → Type 0
SiteFits p s = HeadFits p s.head (pointed (first_operand s.ty s.operands))

-- each node of a tree, of the own trees of listed initializers too
abbrev pub TreeFits : Program → Typed → Type 0
TreeFits p t = All (SiteFits p) (sites t)

-- its root
abbrev pub RootFits : Program → Typed → Type 0
RootFits p t = HeadFits p (head_at (out-Typed t).node) (pointed (first_type (type_of (out-Typed t).ty) (out-Typed t).children))

abbrev pub NodesFit : Program → List NodeInfo → Type 0
NodesFit p = All (λ x. RootFits p x.tree.now)

abbrev pub StoreFits : StoreCode → Type 0
StoreFits s = AccessFits s.access (type_of s.ty.now)

-- the stores and the constant bytes in tables
pub record AreFit (p : Program) (tables : Tables) : Type 0 where
  pub stores : All StoreFits tables.stores.items
  pub constants : All (λ cs. AreLawful p cs.now) tables.constants.items
