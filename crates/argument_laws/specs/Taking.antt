-- Which values the object of a parameter takes (6.5.2.2p4, 6.9.1p10).
use Rattle.std.specs.Prelude.{◌≡◌, ℕ, true, false, List, length}
use Rattle.ub_base.specs.declared.names.ObjName.{ObjName}
use Rattle.addr_map.specs.declared.map.Row.{Row}
use Rattle.addr_map.specs.Rows.{row_of}
use Rattle.c_types.specs.Types.{CType, int}
use Rattle.c_typed.specs.declared.tree.Access.{Access}
use Rattle.c_typed.specs.declared.tree.Access.TheVariants as access
use Rattle.mem_spec.specs.Acts.{Seen, base_in, has_place, scalar, suits_store, whole}
use Rattle.mem_spec.specs.Agreement.{bytes_of_kind}
use Rattle.c_model.specs.Nodes.{overlap_inexactly}
use Rattle.c_model.specs.Program.{Decl}
use Rattle.c_model.specs.Values.{Value, Whole}

-- how many bytes an access has, and of what its places are multiples (6.2.6.1, 6.2.8)
abbrev pub bytes_by : Access → ℕ
bytes_by (access.Integer kind) = bytes_of_kind kind
bytes_by access.Pointer = 8
bytes_by access.Function = 8
bytes_by (access.Whole size align) = size

abbrev pub multiple_by : Access → ℕ
multiple_by (access.Integer kind) = bytes_of_kind kind
multiple_by access.Pointer = 8
multiple_by access.Function = 8
multiple_by (access.Whole size align) = align

-- how it sees the bytes of an object of this type (6.5p7)
abbrev pub sees : Access → CType → Seen
sees (access.Integer kind) ty = scalar (int kind)
sees access.Pointer ty = scalar ty
sees access.Function ty = scalar ty
sees (access.Whole size align) ty = whole

-- a structure or union has as many bytes, and wasn't loaded from where an object at this address would overlap it inexactly (6.5.16.1p3)
abbrev pub FitsPlace : Access → (address : ℕ) → Value → Type 0
FitsPlace (access.Whole size align) a (Whole bs source) = (length bs ≡ size) × (overlap_inexactly size a source ≡ false)
FitsPlace how a v = Unit {0}

-- An object of this declaration and name takes the value: the declaration's access has the object's size and alignment and suits its type (6.5p7), and
-- where the object has its place, the value fits there.
pub record TakesArgument (rows : List Row) (x : ObjName) (d : Decl) (v : Value) : Type 0 where
  pub size : bytes_by d.access ≡ d.size
  pub align : multiple_by d.access ≡ d.align
  pub suits : suits_store (sees d.access d.ty) d.form 0 ≡ true
  pub value : has_place (row_of rows x) d.size d.align ≡ true → FitsPlace d.access (base_in (row_of rows x)) v
