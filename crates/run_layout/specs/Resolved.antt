-- Where the value of an operand comes from: that of a quiet node is known beforehand, that of another node is kept in the room
-- of the node's number (own).
use Rattle.std.specs.Prelude.{ℕ, zero, suc, ◌+◌, ◌-◌, ◌^◌, min, ℤ, pos, List, [], ◌∷◌, Option, Some, None, slice_get}
use Rattle.c_types.specs.declared.kind.IntKind.{IntKind}
use Rattle.c_types.specs.Types.{CType, pointer, function, type_of}
use Rattle.c_arith.specs.Operators.{conv}
use Rattle.c_model.specs.Values.{function_address}
use Rattle.c_typed.specs.declared.tree.Slot.{Slot}
use Rattle.c_typed.specs.declared.tree.Slot.TheVariants as slot
use Rattle.c_typed.specs.declared.tree.Conversion.{Conversion}
use Rattle.c_typed.specs.declared.tree.Conversion.TheVariants as conversion
use Rattle.c_typed.specs.declared.tree.Typed.{Typed, fold-Typed}
use Rattle.c_typed.specs.declared.tree.Node.TheOpen as shape
use Rattle.c_typed.specs.declared.tree.Node.TheOpen.{Node-F, Typed-F}
use Rattle.c_typed.specs.Tree.{tree_of, size}
use Rattle.run_layout.specs.declared.steps.Operand.{Operand}
use Rattle.run_layout.specs.declared.steps.Operand.TheVariants.{Integer, Address, Function, Local, Static, Literal, Done}

-- the number of an object in its function, from that of the first object of its block
abbrev pub local_number : Option ℕ → ℕ → ℕ
local_number None decl = 2 ^ 32 - 1
local_number (Some first) decl = min (first + decl) (2 ^ 32 - 1)

-- a pointer to the object of a slot, where the objects of each block have numbers from these on
abbrev pub object_of : List ℕ → Slot → Operand
object_of firsts (slot.Static object) = Static object 0
object_of firsts (slot.Auto block decl) = Local (local_number (slice_get firsts block) decl) 0

-- a null pointer to an object or to a function (6.3.2.3p3)
abbrev pub null_of : CType → Operand
null_of (function result params variadic) = Function 0
null_of _ = Address 0

-- a constant of this type
abbrev pub constant_of : CType → ℤ → Operand
constant_of (pointer constant target) z = null_of target
constant_of _ z = Integer z

-- an integer that is converted, where it is known beforehand (6.3.1.3)
abbrev pub converted : IntKind → ℕ → Operand → Operand
converted kind n (Integer z) = Integer (conv kind z)
converted kind n _ = Done n

abbrev pub by_conversion : Conversion → ℕ → Operand → Operand
by_conversion (conversion.Integer kind) n o = converted kind n o
by_conversion _ n o = Done n

-- a member of an object (6.5.2.3)
abbrev pub member_of : ℕ → ℕ → Operand → Operand
member_of offset n (Local object at) = Local object (min (at + offset) (2 ^ 64 - 1))
member_of offset n (Static object at) = Static object (min (at + offset) (2 ^ 64 - 1))
member_of offset n _ = Done n

abbrev pub first_resolved : List (ℕ → Operand) → ℕ → Operand
first_resolved [] n = Done n
first_resolved (o ∷ os) n = o n

-- of a node with this type and these operands
abbrev pub NodeResolved : Type 0
NodeResolved = CType → List (ℕ → Operand) → ℕ → Operand

abbrev pub node_resolved : List ℕ → Node-F NodeResolved (ℕ → Operand) → NodeResolved
node_resolved firsts (shape.Const z) ty os n = constant_of ty z
node_resolved firsts (shape.Obj s) ty os n = object_of firsts s
node_resolved firsts (shape.Func k) ty os n = Function (function_address k)
node_resolved firsts (shape.Str k) ty os n = Literal k 0
node_resolved firsts (shape.Conv c) ty os n = by_conversion c n (first_resolved os n)
node_resolved firsts (shape.Member offset) ty os n = member_of offset n (first_resolved os n)
node_resolved firsts _ ty os n = Done n

abbrev pub tree_resolved : Typed-F NodeResolved (ℕ → Operand) → ℕ → Operand
tree_resolved t = t.node (type_of t.ty) t.children

-- the value of a tree whose root has this number
abbrev pub resolved : List ℕ → Typed → ℕ → Operand
resolved firsts = fold-Typed NodeResolved (ℕ → Operand) (node_resolved firsts) tree_resolved

-- the values of a node's operands, the first of which has the number m
abbrev pub operands_from : List ℕ → ℕ → List Typed → List Operand
operands_from firsts m [] = []
operands_from firsts m (t ∷ ts) = resolved firsts t m ∷ operands_from firsts (m + size (tree_of t)) ts

-- the value of the operand of this number; of none 0 (own)
abbrev pub value_at : List Operand → ℕ → Operand
value_at [] i = Integer (pos 0)
value_at (o ∷ os) zero = o
value_at (o ∷ os) (suc i) = value_at os i
