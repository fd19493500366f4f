-- What the events of a node do, by the node and where the values of its operands come from (6.5), and what is noted of them.
use Rattle.std.specs.Prelude.{◌≡◌, ℕ, suc, ◌+◌, ◌^◌, ◌-◌, ◌<◌, ◌≤◌, min, pos, Bool, true, false, List, [], ◌∷◌, length, map, Option, Some, None, slice_get}
use Rattle.std.specs.List.{All}
use Rattle.std.specs.Option.{ForSome}
use Rattle.std.specs.Borrow.{Bor}
use Rattle.ub_base.specs.declared.clause.Kind.{Kind}
use Rattle.ub_base.specs.declared.clause.Kind.TheVariants.{Val, Eff, Body}
use Rattle.c_types.specs.declared.ty.FuncTy.{FuncTy}
use Rattle.c_types.specs.declared.ty.Ty.{Ty}
use Rattle.c_types.specs.Types.{CType, function, pointer, qualified_of, signature_of, type_of}
use Rattle.c_typed.specs.declared.program.Constant.{Constant}
use Rattle.c_typed.specs.declared.tree.Access.{Access}
use Rattle.c_typed.specs.declared.tree.Access.TheVariants as access
use Rattle.c_typed.specs.declared.tree.Change.{Change}
use Rattle.c_typed.specs.declared.tree.Change.TheVariants as change
use Rattle.c_typed.specs.declared.tree.Node.{Node, fold-Node}
use Rattle.c_typed.specs.declared.tree.Node.TheOpen as shape
use Rattle.c_typed.specs.declared.tree.Typed.{Typed, out-Typed}
use Rattle.c_typed.specs.Sites.{Head, Seen, SeenNode, seen_node, seen_tree}
use Rattle.run_layout.specs.declared.nodes.NodeInfo.{NodeInfo}
use Rattle.run_layout.specs.declared.steps.Operand.{Operand}
use Rattle.run_layout.specs.declared.steps.Operand.TheVariants.{Integer, Done}
use Rattle.run_layout.specs.declared.steps.Act.{Act}
use Rattle.run_layout.specs.declared.steps.Act.TheVariants as act
use Rattle.run_layout.specs.declared.steps.CallCode.{CallCode}
use Rattle.run_layout.specs.declared.steps.StoreCode.{StoreCode}
use Rattle.run_layout.specs.declared.steps.Due.{Due}
use Rattle.run_layout.specs.declared.steps.Listed.{Listed}
use Rattle.run_layout.specs.declared.steps.Listed.TheVariants as listed
use Rattle.run_layout.specs.declared.tables.Tables.{Tables}
use Rattle.run_layout.specs.Resolved.{resolved, object_of, operands_from, value_at}
use Rattle.run_layout.specs.Numbered.{AreNoted}
use Rattle.run_layout.specs.Choices.{ChoosesAt}

-- a node without the trees below it
abbrev pub head_at : Node → Head
head_at n = (fold-Node SeenNode Seen seen_node seen_tree n).head

-- the type of the object or function that a pointer of this type points to
abbrev pub pointed : CType → CType
pointed (pointer constant ty) = ty
pointed ty = ty

-- the type of a node's first operand; of a node without operands its own (own)
abbrev pub first_type : CType → List Typed → CType
first_type ty [] = ty
first_type ty (t ∷ ts) = type_of (out-Typed t).ty

abbrev pub rest_of : {A : Type 0} → List A → List A
rest_of [] = []
rest_of (x ∷ xs) = xs

-- the types of a node's operands behind the first
abbrev pub later_types : List Typed → List CType
later_types ts = map (λ t. type_of (out-Typed t).ty) (rest_of ts)

-- what a node's events go by: the values of its operands, the type of the object or function that the first of them designates and the types of the others,
-- the node's own value, and the room for what an update will store
pub record Sight : Type 0 where
  pub operands : List Operand
  pub object : CType
  pub later : List CType
  pub own : Operand
  pub room : ℕ

abbrev pub last_of : List Operand → Operand
last_of [] = Integer (pos 0)
last_of (o ∷ []) = o
last_of (o ∷ p ∷ os) = last_of (p ∷ os)

-- what an update adds: 1 for postfix `++` and `--` (6.5.2.4p2)
abbrev pub amount : (old : Bool) → List Operand → Operand
amount true os = Integer (pos 1)
amount false os = value_at os 1

abbrev pub change_access : Change → Access
change_access (change.Integer op kind work) = access.Integer kind
change_access (change.Pointer size subtract) = access.Pointer

-- an act goes by this type
abbrev pub ByType : CType → (Bor Ty → Act) → Act → Type 0
ByType ty f a = (t : Bor Ty) × (type_of t.now ≡ ty) × (a ≡ f t)

-- the act of a node's value; quiet nodes have none
abbrev pub IsValue : Head → Sight → Act → Type 0
IsValue (shape.Load how) s a = ByType s.object (λ ty. act.Load how ty (value_at s.operands 0)) a
IsValue (shape.Conv c) s a = a ≡ act.Convert c (value_at s.operands 0)
IsValue (shape.Un op) s a = a ≡ act.Unary op (value_at s.operands 0)
IsValue (shape.Bin op kind) s a = a ≡ act.Binary op kind (value_at s.operands 0) (value_at s.operands 1)
IsValue (shape.PtrAdd size subtract) s a = a ≡ act.Move size subtract (value_at s.operands 0) (value_at s.operands 1)
IsValue (shape.PtrDiff size) s a = a ≡ act.Distance size (value_at s.operands 0) (value_at s.operands 1)
IsValue (shape.Rel op pointers) s a = a ≡ act.Related op pointers (value_at s.operands 0) (value_at s.operands 1)
IsValue (shape.Eq op) s a = a ≡ act.Equal op (value_at s.operands 0) (value_at s.operands 1)
IsValue (shape.Member offset) s a = a ≡ act.Member offset (value_at s.operands 0)
IsValue (shape.Part offset how) s a = a ≡ act.Part offset how (value_at s.operands 0)
IsValue (shape.Assign first how) s a = a ≡ act.Same (value_at s.operands 1)
IsValue (shape.Update c old) s a = ByType s.object (λ ty. act.Change c old ty (value_at s.operands 0) (amount old s.operands) s.room) a
IsValue shape.And s a = a ≡ act.Logical false (value_at s.operands 0) (value_at s.operands 1)
IsValue shape.Or s a = a ≡ act.Logical true (value_at s.operands 0) (value_at s.operands 1)
IsValue shape.Cond s a = a ≡ act.Selected (value_at s.operands 0) (value_at s.operands 1) (value_at s.operands 2)
IsValue shape.Comma s a = a ≡ act.Same (last_of s.operands)
IsValue (shape.Call discarded) s a = a ≡ act.Answer discarded
IsValue (shape.List slot bytes) s a = a ≡ act.Nothing
IsValue (shape.Isolated tree) s a = a ≡ act.Nothing
IsValue _ s a = a ≡ act.Same s.own

-- how a value is stored to an object of this type
pub record IsStore (how : Access) (first : Bool) (object : CType) (store : StoreCode) : Type 0 where
  pub access : store.access ≡ how
  pub initializing : store.initializing ≡ first
  pub ty : type_of store.ty.now ≡ object

abbrev pub Stores : Tables → (how : Access) → (first : Bool) → CType → (place value : Operand) → Act → Type 0
Stores tables how first object place value a =
    (n : ℕ) × (store : StoreCode) × (slice_get tables.stores.items n ≡ Some store) × IsStore how first object store × (a ≡ act.Store n place value)

abbrev pub Fills : Tables → Operand → List Constant → Act → Type 0
Fills tables object bytes a =
    (n : ℕ) × (filling : Bor (List Constant)) × (slice_get tables.constants.items n ≡ Some filling) × (filling.now ≡ bytes) × (a ≡ act.Fill object n)

-- the act of a node's effect: an assignment stores the value of its right operand (6.5.16p3), an update what it worked out
abbrev pub IsEffect : List ℕ → Tables → Head → Sight → Act → Type 0
IsEffect firsts tables (shape.Assign first how) s a = Stores tables how first s.object (value_at s.operands 0) (value_at s.operands 1) a
IsEffect firsts tables (shape.Update c old) s a = Stores tables (change_access c) false s.object (value_at s.operands 0) (Done s.room) a
IsEffect firsts tables (shape.List slot bytes) s a = Fills tables (object_of firsts slot) bytes a
IsEffect firsts tables _ s a = a ≡ act.Nothing

-- the function type to which a designator points, if it is one (6.5.2.2p1)
abbrev pub GoesBy : CType → Option (Bor FuncTy) → Type 0
GoesBy (function result params variadic) (Some f) = signature_of f.now ≡ record { result = result; params = params; variadic = variadic }
GoesBy (function result params variadic) None = ⊥
GoesBy ty (Some f) = ⊥
GoesBy ty None = Unit {0}

-- a call: its designator's value, the function type to which that points, and its arguments with their types
pub record IsCallBy (s : Sight) (call : CallCode) : Type 0 where
  pub designator : call.designator ≡ value_at s.operands 0
  pub goes : GoesBy s.object call.ty
  pub arguments : call.arguments.items ≡ rest_of s.operands
  pub types : map (λ q. (qualified_of q).ty) call.types ≡ s.later

abbrev pub Calls : Tables → Sight → Act → Type 0
Calls tables s a = (n : ℕ) × (call : CallCode) × (slice_get tables.calls.items n ≡ Some call) × IsCallBy s call × (a ≡ act.Call n)

-- the act of a node's body
abbrev pub IsBody : Tables → (initializer : ℕ) → Head → Sight → Act → Type 0
IsBody tables initializer (shape.Call discarded) s a = Calls tables s a
IsBody tables initializer (shape.Isolated tree) s a = a ≡ act.Initialize initializer
IsBody tables initializer _ s a = a ≡ act.Nothing

-- the last event of an assignment, an update or an initializer list is its effect, that of another node its value
abbrev pub ends_with : Head → Kind → Bool
ends_with (shape.Assign first how) Eff = true
ends_with (shape.Update c old) Eff = true
ends_with (shape.List slot bytes) Eff = true
ends_with (shape.Assign first how) Val = false
ends_with (shape.Update c old) Val = false
ends_with (shape.List slot bytes) Val = false
ends_with h Val = true
ends_with h kind = false

-- an update keeps what it will store in its own room, or where it gives the old value in one behind those of the nodes
abbrev pub room_of : Head → (count n room : ℕ) → ℕ
room_of (shape.Update c true) count n room = min (count + room) (2 ^ 32 - 1)
room_of h count n room = n

-- what the events of a tree's root go by
abbrev pub seen : Typed → List Operand → (own : Operand) → (room : ℕ) → Sight
seen t os own room = record {
  operands = os;
  object = pointed (first_type (type_of (out-Typed t).ty) (out-Typed t).children);
  later = later_types (out-Typed t).children;
  own = own;
  room = room;
}

-- what those of the node of this number go by
abbrev pub sight_of : List ℕ → (count n : ℕ) → NodeInfo → Sight
sight_of firsts count n x =
    seen x.tree.now (operands_from firsts (suc n) (out-Typed x.tree.now).children) (resolved firsts x.tree.now n)
    (room_of (head_at (out-Typed x.tree.now).node) (min count (2 ^ 32 - 1)) n x.room)

abbrev pub IsAct : List ℕ → Tables → (initializer : ℕ) → Head → Sight → Kind → Act → Type 0
IsAct firsts tables initializer h s Val a = IsValue h s a
IsAct firsts tables initializer h s Eff a = IsEffect firsts tables h s a
IsAct firsts tables initializer h s Body a = IsBody tables initializer h s a

-- what is noted of an event of this node; the choice that is made at it is one of the table
pub record IsDue (firsts : List ℕ) (tables : Tables) (count : ℕ) (d : Due) (x : NodeInfo) : Type 0 where
  pub line : d.line ≡ (out-Typed x.tree.now).line
  pub parent : d.parent ≡ x.parent
  pub completes : d.completes ≡ ends_with (head_at (out-Typed x.tree.now).node) d.place.kind
  pub does : IsAct firsts tables x.initializer (head_at (out-Typed x.tree.now).node) (sight_of firsts count d.place.node x) d.place.kind d.act
  pub choice : ForSome d.choice (λ n. n < length tables.choices.items)

-- it is an event of one of these nodes, and the choice that is made at it is the one that its node's value makes
abbrev pub IsEntry : List ℕ → Tables → List NodeInfo → Listed → Type 0
IsEntry firsts tables nodes (listed.Event d) =
    (x : NodeInfo) × (slice_get nodes d.place.node ≡ Some x) × IsDue firsts tables (length nodes) d x
    × ChoosesAt firsts tables nodes d.place.node x d.place.kind d.choice
IsEntry firsts tables nodes (listed.Operand node index count) = Unit {0}

-- where what is noted of the nodes is so, what is noted of the events is so too
abbrev pub AreEntries : List ℕ → Tables → List NodeInfo → List Listed → Type 0
AreEntries firsts tables nodes entries = AreNoted firsts nodes → All (IsEntry firsts tables nodes) entries

-- each of the one list stands at its place in the other
abbrev pub AreFirst : {A : Type 0} → List A → List A → Type 0
AreFirst {A} xs ys = (n : ℕ) (x : A) → slice_get xs n ≡ Some x → slice_get ys n ≡ Some x

-- what stands in the tables stays there as more is added
pub record AreGrown (old new : Tables) : Type 0 where
  pub calls : AreFirst old.calls.items new.calls.items
  pub stores : AreFirst old.stores.items new.stores.items
  pub constants : AreFirst old.constants.items new.constants.items
  pub chosen : AreFirst old.chosen.items new.chosen.items
  pub choices : AreFirst old.choices.items new.choices.items
  pub objects : length old.objects.items ≤ length new.objects.items
  pub each_object : AreFirst old.objects.items new.objects.items
  pub blocks : AreFirst old.blocks.items new.blocks.items
