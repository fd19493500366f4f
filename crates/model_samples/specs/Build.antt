-- Small programs, shortly written: how they are built, and what is said of them.
use Rattle.std.specs.Prelude.{ℕ, ◌+◌, ◌*◌, true, false, List, [], ◌∷◌, ◌++◌, length, Some, None, ℤ, pos, neg_ℤ}
use Rattle.ub_base.specs.declared.names.ObjName.{ObjName}
use Rattle.ub_base.specs.declared.names.ObjName.TheVariants.{Static, Auto, Lit, Heap}
use Rattle.ub_base.specs.declared.names.Item.{Item}
use Rattle.ub_base.specs.Frames.{Path}
use Rattle.c_types.specs.declared.kind.IntKind.{IntKind}
use Rattle.c_types.specs.declared.kind.IntKind.TheVariants as kind
use Rattle.c_types.specs.declared.kind.BinOp.{BinOp}
use Rattle.c_types.specs.declared.kind.BinOp.TheVariants as op
use Rattle.c_types.specs.declared.library.LibFunc.{LibFunc}
use Rattle.c_types.specs.Types as types
use Rattle.c_types.specs.Types.{CType, Params}
use Rattle.c_types.specs.Shapes.{Form, leaf, repeat, parts}
use Rattle.c_types.specs.Shapes as shapes
use Rattle.c_typed.specs.declared.tree.Slot.TheVariants as slot
use Rattle.c_typed.specs.declared.tree.Access.{Access}
use Rattle.c_typed.specs.declared.tree.Access.TheVariants as access
use Rattle.c_typed.specs.declared.tree.Change.TheVariants as change
use Rattle.c_typed.specs.declared.tree.Conversion.{Conversion}
use Rattle.c_typed.specs.declared.tree.Conversion.TheVariants as conversion
use Rattle.c_typed.specs.declared.tree.RelOp.{RelOp}
use Rattle.c_typed.specs.declared.tree.EqOp.TheVariants as equality
use Rattle.c_typed.specs.declared.tree.Place.{Place}
use Rattle.addr_map.specs.declared.map.Row.{Row}
use Rattle.addr_map.specs.declared.map.Mode.{Mode}
use Rattle.addr_map.specs.declared.map.Mode.TheVariants.{Spaced}
use Rattle.addr_map.specs.Rows.{base_of}
use Rattle.c_types.specs.Same.{compatible}
use Rattle.mem_spec.specs.Agreement.{bytes_of_kind}
use Rattle.c_model.specs.Program.{Bytes, Head, Number, Obj, Func, Str, Load, Conv, Bin, Rel, Eq, Assign}
use Rattle.c_model.specs.Program.{Update, Call, Expr, expr, Exprs, none, more, Decl, Stmt, Value}
use Rattle.c_model.specs.Program.{Block, Return, Stmts, end, and_then, Function, Standing}
use Rattle.c_model.specs.Values as value
use Rattle.c_model.specs.World.{World, Limits, profile_limits}
use Rattle.c_model.specs.Numbering.{frame_number}
use Rattle.c_model.specs.Runs.{Entry, start, canonical_after, on_running, trace_of}
use Rattle.c_model.specs.FirstFinding.{Finding, Pair, first_finding}
use Rattle.c_model.specs.Libraries.{library}

-- types

abbrev pub int_type : CType
int_type = types.int kind.Int

abbrev pub pointer_to : CType → CType
pointer_to ty = types.pointer false ty

abbrev pub array_of : ℕ → CType → CType
array_of n ty = types.array false ty (Some n)

abbrev pub params : List CType → Params
params [] = types.none
params (t ∷ ts) = types.more false t (params ts)

abbrev pub returning : CType → List CType → CType
returning ty ts = types.function ty (params ts) false

-- each structure has two members of type int
abbrev pub size_of : CType → ℕ
size_of (types.int k) = bytes_of_kind k
size_of (types.array constant ty (Some n)) = n * size_of ty
size_of ty = 8

abbrev pub align_of : CType → ℕ
align_of (types.array constant ty n) = align_of ty
align_of (types.struct tag) = 4
align_of ty = size_of ty

abbrev pub form_of : CType → Form
form_of (types.array constant ty (Some n)) = repeat n (size_of ty) (form_of ty)
form_of (types.struct tag) = parts (shapes.place 0 (leaf int_type) (shapes.place 4 (leaf int_type) shapes.none))
form_of ty = leaf ty

abbrev pub pointer_access : CType → Access
pointer_access (types.function ty ps variadic) = access.Function
pointer_access ty = access.Pointer

abbrev pub access_of : CType → Access
access_of (types.int k) = access.Integer k
access_of (types.pointer constant ty) = pointer_access ty
access_of ty = access.Whole (size_of ty) (align_of ty)

-- expressions, all on line 1

abbrev pub exprs : List Expr → Exprs
exprs [] = none
exprs (e ∷ es) = more e (exprs es)

abbrev pub node : Head → CType → List Expr → Expr
node h ty es = expr h ty 1 (exprs es)

abbrev pub type_of : Expr → CType
type_of (expr h ty line es) = ty

-- what a pointer type points to
abbrev pub pointed : CType → CType
pointed (types.pointer constant ty) = ty
pointed ty = ty

abbrev pub constant : IntKind → ℤ → Expr
constant k z = node (Number z) (types.int k) []

abbrev pub int : ℕ → Expr
int n = constant kind.Int (pos n)

abbrev pub minus : ℕ → Expr
minus n = constant kind.Int (neg_ℤ (pos n))

-- the object of this number of a function's body block, and of another block
abbrev pub local : ℕ → CType → Expr
local n ty = node (Obj (slot.Auto 0 n)) (pointer_to ty) []

abbrev pub local_of : ℕ → ℕ → CType → Expr
local_of block n ty = node (Obj (slot.Auto block n)) (pointer_to ty) []

abbrev pub static : ℕ → CType → Expr
static n ty = node (Obj (slot.Static n)) (pointer_to ty) []

-- the first two objects, of type int
abbrev pub x : Expr
x = local 0 int_type

abbrev pub y : Expr
y = local 1 int_type

-- an lvalue's value
abbrev pub get : Expr → Expr
get p = node (Load (access_of (pointed (type_of p)))) (pointed (type_of p)) (p ∷ [])

abbrev pub set : Expr → Expr → Expr
set p v = node (Assign false (access_of (pointed (type_of p)))) (pointed (type_of p)) (p ∷ v ∷ [])

abbrev pub init : Expr → Expr → Expr
init p v = node (Assign true (access_of (pointed (type_of p)))) (pointed (type_of p)) (p ∷ v ∷ [])

-- an operator of int
abbrev pub binary : BinOp → Expr → Expr → Expr
binary o a b = node (Bin o kind.Int) int_type (a ∷ b ∷ [])

abbrev pub add : Expr → Expr → Expr
add = binary op.Add

abbrev pub less : RelOp → Expr → Expr → Expr
less o a b = node (Rel o false) int_type (a ∷ b ∷ [])

abbrev pub equal : Expr → Expr → Expr
equal a b = node (Eq equality.Equal) int_type (a ∷ b ∷ [])

abbrev pub not_equal : Expr → Expr → Expr
not_equal a b = node (Eq equality.NotEqual) int_type (a ∷ b ∷ [])

abbrev pub convert : Conversion → CType → Expr → Expr
convert c ty e = node (Conv c) ty (e ∷ [])

abbrev pub to_kind : IntKind → Expr → Expr
to_kind k e = convert (conversion.Integer k) (types.int k) e

-- an int's postfix `++`
abbrev pub increment : Expr → Expr
increment p = node (Update (change.Integer op.Add kind.Int kind.Int) true) int_type (p ∷ [])

abbrev pub decrement : Expr → Expr
decrement p = node (Update (change.Integer op.Sub kind.Int kind.Int) true) int_type (p ∷ [])

-- a compound assignment to an int
abbrev pub update : BinOp → Expr → Expr → Expr
update o p v = node (Update (change.Integer o kind.Int kind.Int) false) int_type (p ∷ v ∷ [])

abbrev pub function_at : ℕ → CType → Expr
function_at n ty = node (Func n) ty []

-- a call of a function that takes these arguments and gives an int
abbrev pub types_of : List Expr → List CType
types_of [] = []
types_of (e ∷ es) = type_of e ∷ types_of es

abbrev pub call : ℕ → List Expr → Expr
call f es = node (Call false) int_type (function_at f (returning int_type (types_of es)) ∷ es)

abbrev pub discard : ℕ → List Expr → Expr
discard f es = node (Call true) types.void (function_at f (returning int_type (types_of es)) ∷ es)

-- the literal of this number
abbrev pub text : ℕ → Expr
text n = node (Str n) (pointer_to (types.int kind.Char)) []

-- statements and programs

abbrev pub stmts : List Stmt → Stmts
stmts [] = end
stmts (s ∷ ss) = and_then s (stmts ss)

abbrev pub decl : CType → Decl
decl ty = record { size = size_of ty; align = align_of ty; constant = false; form = Some (form_of ty); access = access_of ty; ty = ty }

abbrev pub decls : List CType → List Decl
decls [] = []
decls (t ∷ ts) = decl t ∷ decls ts

abbrev pub block : ℕ → List CType → List Stmt → Stmt
block n ts ss = Block n (decls ts) (stmts ss)

-- an object at file level, and a literal, with these bytes
abbrev pub file_object : ℕ → CType → List ℕ → Standing
file_object n ty bs = record { name = Static n; decl = decl ty; literal = false; fillings = record { offset = 0; content = Bytes bs } ∷ [] }

abbrev pub literal : ℕ → List ℕ → Standing
literal n bs = record {
  name = Lit n;
  decl = decl (array_of (length bs) (types.int kind.Char));
  literal = true;
  fillings = record { offset = 0; content = Bytes bs } ∷ [];
}

-- a function of this type, with objects of these types, its parameters first
abbrev pub function : CType → List CType → List Stmt → Function
function ty ts ss = record { ty = ty; void = false; library = None; body = Some (block 0 ts ss) }

abbrev pub of_library : CType → LibFunc → Function
of_library ty f = record { ty = ty; void = false; library = Some f; body = None }

abbrev pub main_function : List CType → List Stmt → Function
main_function ts ss = function (returning int_type []) ts ss

-- a program, the objects that it creates, in this order, with their types, and what it reads
pub record Sample : Type 0 where
  pub functions : List Function
  pub standing : List Standing
  pub objects : List (ObjName × CType)
  pub mode : Mode
  pub input : List ℕ
  pub arguments : List value.Value
  pub limits : Limits

-- an object on the heap is aligned to 16 bytes (own)
abbrev pub alignment : ObjName → CType → ℕ
alignment (Heap frame turn node) ty = 16
alignment x ty = align_of ty

abbrev pub with_row : Mode → List Row → ObjName × CType → List Row
with_row mode rows o =
    rows ++ record { name = o.0; base = base_of mode rows (alignment o.0 o.1); size = size_of o.1; align = alignment o.0 o.1 } ∷ []

-- each object stands behind those before it
abbrev pub placed : Mode → List Row → List (ObjName × CType) → List Row
placed mode rows [] = rows
placed mode rows (o ∷ os) = placed mode (with_row mode rows o) os

abbrev pub standing_objects : List Standing → List (ObjName × CType)
standing_objects [] = []
standing_objects (o ∷ os) = (o.name, o.decl.ty) ∷ standing_objects os

-- compatible function types: these samples use no enumerations
abbrev pub world_of : Sample → World
world_of s = let rows = placed s.mode [] (standing_objects s.standing ++ s.objects) in record {
  program = record { functions = s.functions; main = 0; standing = s.standing };
  rows = rows;
  agree = compatible;
  library = library rows;
  number = frame_number;
  limits = s.limits;
}

-- the first finding within 200 picks
abbrev pub found : Sample → Finding
found s = first_finding (world_of s) 200 s.input s.arguments

-- the objects of a block of main that is entered in this turn
abbrev pub from_number : ℕ → ℕ → List CType → List (ObjName × CType)
from_number turn n [] = []
from_number turn n (t ∷ ts) = (Auto (record { 0 = 0 }) turn n, t) ∷ from_number turn (n + 1) ts

abbrev pub sample : List Function → List Standing → List (ObjName × CType) → Sample
sample fs os created =
    record { functions = fs; standing = os; objects = created; mode = Spaced; input = []; arguments = []; limits = profile_limits }

-- a program with `main` alone: its objects, and its statements
abbrev pub main : List CType → List Stmt → Sample
main ts ss = sample (main_function ts ss ∷ []) [] (from_number 1 0 ts)

-- with further functions, which have no objects
abbrev pub main_and : List Function → List CType → List Stmt → Sample
main_and fs ts ss = sample (main_function ts ss ∷ fs) [] (from_number 1 0 ts)

-- int main(void){return E;}
abbrev pub returns : Expr → Sample
returns e = main [] (Return e ∷ [])

-- int main(void){int x=A;int y=B;S}, each with five picks before S
abbrev pub with_x : Expr → List Stmt → Sample
with_x a ss = main (int_type ∷ []) (Value (init x a) ∷ ss)

abbrev pub with_both : Expr → Expr → List Stmt → Sample
with_both a b ss = main (int_type ∷ int_type ∷ []) (Value (init x a) ∷ Value (init y b) ∷ ss)

-- the object of this number of the block that was entered in this turn of the frame
abbrev pub frame_object : Path → (turn n : ℕ) → ObjName
frame_object path turn n = Auto (record { 0 = frame_number path }) turn n

-- what the event of this node of a full expression of `main` allocated
abbrev pub heap_object : (turn node : ℕ) → ObjName
heap_object turn node = Heap (record { 0 = 0 }) turn node

abbrev pub entry_items : List Entry → List Item
entry_items [] = []
entry_items (e ∷ es) = e.items

-- what the last of so many canonical picks touches
abbrev pub touched : Sample → ℕ → List Item
touched s n = entry_items (trace_of (on_running (start (world_of s) s.input s.arguments) (canonical_after (world_of s) n)))

-- findings

-- two evaluations of `main`, both on line 1, with their least conflicting items
abbrev pub pair_of : (turn : ℕ) → Place → Place → Item → Item → Pair
pair_of turn u v i j = record { path = []; turn = turn; event = u; line = 1; other = v; other_line = 1; items = Some (i, j) }

-- the objects of `main`'s body block
abbrev pub main_object : ℕ → ObjName
main_object n = Auto (record { 0 = 0 }) 1 n
