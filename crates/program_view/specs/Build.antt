-- Small typed programs, shortly written: each is on line 1.
use Rattle.std.specs.Prelude.{ℕ, Bool, false, true, pos, List, [], ◌∷◌, Some, None}
use Rattle.c_types.specs.declared.kind.IntKind.TheVariants as kind
use Rattle.c_types.specs.declared.kind.BinOp.TheVariants as op
use Rattle.c_types.specs.declared.tags.Tag.{Tag}
use Rattle.c_types.specs.declared.ty.Ty.{Ty}
use Rattle.c_types.specs.declared.ty.Ty.TheVariants as ty
use Rattle.c_types.specs.declared.ty.Qual.{Qual, roll-Qual}
use Rattle.c_types.specs.declared.ty.FuncTy.{FuncTy, roll-FuncTy}
use Rattle.c_typed.specs.declared.tree.Slot.{Slot}
use Rattle.c_typed.specs.declared.tree.Access.{Access}
use Rattle.c_typed.specs.declared.tree.Access.TheVariants as access
use Rattle.c_typed.specs.declared.tree.Change.TheVariants as change
use Rattle.c_typed.specs.declared.tree.RelOp.{RelOp}
use Rattle.c_typed.specs.declared.tree.EqOp.TheVariants as equality
use Rattle.c_typed.specs.declared.tree.Node.{Node}
use Rattle.c_typed.specs.declared.tree.Node.TheVariants as node
use Rattle.c_typed.specs.declared.tree.Typed.{Typed, roll-Typed}
use Rattle.c_typed.specs.declared.statement.Body.{Body}
use Rattle.c_typed.specs.declared.statement.Body.TheVariants as body
use Rattle.c_typed.specs.declared.statement.Entry.{Entry}
use Rattle.c_typed.specs.declared.statement.Entry.TheVariants as entry
use Rattle.c_typed.specs.declared.statement.Block.{Block, roll-Block}
use Rattle.c_typed.specs.declared.program.Function.{Function}
use Rattle.c_typed.specs.declared.program.Static.{Static}
use Rattle.c_typed.specs.declared.program.Program.{Program}

-- types

abbrev pub int_ty : Ty
int_ty = ty.Int kind.Int

abbrev pub plain : Ty → Qual
plain t = roll-Qual (record { ty = t; constant = false })

abbrev pub pointer_ty : Ty → Ty
pointer_ty t = ty.Pointer (plain t)

abbrev pub taking : List Qual → Ty → FuncTy
taking params result = roll-FuncTy (record { result = result; params = params; variadic = false })

abbrev pub int_void : FuncTy
int_void = taking [] int_ty

-- expressions

abbrev pub tree : Node → Ty → List Typed → Typed
tree n t ts = roll-Typed (record { node = n; ty = t; line = 1; children = ts })

abbrev pub number : ℕ → Typed
number n = tree (node.Const (pos n)) int_ty []

abbrev pub object : Slot → Ty → Typed
object s t = tree (node.Obj s) (pointer_ty t) []

abbrev pub get : Access → Ty → Typed → Typed
get how t p = tree (node.Load how) t (p ∷ [])

abbrev pub load : Typed → Typed
load p = get (access.Integer kind.Int) int_ty p

abbrev pub assign : Bool → Typed → Typed → Typed
assign first p v = tree (node.Assign first (access.Integer kind.Int)) int_ty (p ∷ v ∷ [])

abbrev pub increment : Typed → Typed
increment p = tree (node.Update (change.Integer op.Add kind.Int kind.Int) true) int_ty (p ∷ [])

abbrev pub compared : RelOp → Typed → Typed → Typed
compared how a b = tree (node.Rel how false) int_ty (a ∷ b ∷ [])

abbrev pub is_equal : Typed → Typed → Typed
is_equal a b = tree (node.Eq equality.Equal) int_ty (a ∷ b ∷ [])

-- statements

abbrev pub value : Typed → Body
value t = body.Simple (Some t)

abbrev pub only_if : Typed → Body → Body
only_if t s = body.If t s None

abbrev pub returning : Typed → Body
returning t = body.Return (Some t)

abbrev pub says : Body → Entry
says s = entry.Statement s

abbrev pub block : ℕ → List Qual → List Entry → Block
block number objects entries = roll-Block (record { number = number; objects = objects; entries = entries })

-- functions and programs

abbrev pub defined : FuncTy → List Qual → List Entry → Function
defined t objects entries = record { ty = t; library = None; body = Some (body.Block (block 0 objects entries)) }

abbrev pub program_of : List Tag → List Function → List Static → List (List ℕ) → Program
program_of tags functions statics literals =
    record { functions = functions; statics = statics; literals = literals; tags = tags; main = 0 }
