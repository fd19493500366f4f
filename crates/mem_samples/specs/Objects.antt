-- What the samples name: objects, events, rows, and what objects are.
use Rattle.std.specs.Prelude.{ℕ, true, false, Option, Some, None}
use Rattle.ub_base.specs.declared.clause.Kind.TheVariants.{Val}
use Rattle.ub_base.specs.declared.names.Event.{Event}
use Rattle.ub_base.specs.declared.names.ObjName.{ObjName}
use Rattle.ub_base.specs.declared.names.ObjName.TheVariants.{Static}
use Rattle.addr_map.specs.declared.map.Row.{Row}
use Rattle.c_types.specs.declared.kind.IntKind.{IntKind}
use Rattle.c_types.specs.declared.kind.IntKind.TheVariants.{Char, Int, Long}
use Rattle.c_types.specs.Types.{CType, int}
use Rattle.c_types.specs.Types as types
use Rattle.c_types.specs.Shapes.{Form, leaf, parts, place}
use Rattle.c_types.specs.Shapes as shapes
use Rattle.mem_spec.specs.declared.kind.ObjKind.{ObjKind}

abbrev pub a : ObjName
a = Static 0

abbrev pub b : ObjName
b = Static 1

abbrev pub c : ObjName
c = Static 2

abbrev pub h : ObjName
h = Static 3

abbrev pub g : ObjName
g = Static 4

abbrev pub x : ObjName
x = Static 5

abbrev pub p : ObjName
p = Static 6

abbrev pub q : ObjName
q = Static 7

abbrev pub u : ObjName
u = Static 8

abbrev pub v : ObjName
v = Static 9

-- the value computation of node 0 in this turn of `main`
abbrev pub turn : ℕ → Event
turn t = record { frame = record { 0 = 0 }; turn = t; node = 0; kind = Val }

abbrev pub row : ObjName → (base size align : ℕ) → Row
row x base size align = record { name = x; base = base; size = size; align = align }

-- how an object is defined: its kind, and its declared type if it has one
pub record Definition : Type 0 where
  pub kind : ObjKind
  pub form : Option Form

abbrev pub plain : ObjKind
plain = record { heap = false; literal = false; constant = false }

abbrev pub declared : CType → Definition
declared ty = record { kind = plain; form = Some (leaf ty) }

abbrev pub constant : IntKind → Definition
constant k = record { kind = record { heap = false; literal = false; constant = true }; form = Some (leaf (int k)) }

abbrev pub allocated : Definition
allocated = record { kind = record { heap = true; literal = false; constant = false }; form = None }

abbrev pub literal : Definition
literal = record { kind = record { heap = false; literal = true; constant = false }; form = Some (leaf (int Char)) }

-- a pointer to an int, and one to a function without parameters that gives an int
abbrev pub pointer_type : CType
pointer_type = types.pointer false (int Int)

abbrev pub function_type : CType
function_type = types.pointer false (types.function (int Int) types.none false)

-- a structure of an int and, from byte 8 on, a pointer; a union of an int and a long
abbrev pub structure : Definition
structure = record { kind = plain; form = Some (parts (place 0 (leaf (int Int)) (place 8 (leaf pointer_type) shapes.none))) }

abbrev pub union : Definition
union = record { kind = plain; form = Some (parts (place 0 (leaf (int Int)) (place 0 (leaf (int Long)) shapes.none))) }
