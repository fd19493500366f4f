-- The tree of a full expression as the order of evaluation sees it: the class of each node.
use Rattle.std.specs.Prelude.{ℕ, suc, ◌+◌, Bool, true, false, List, [], ◌∷◌, map, Option, Some, None, if◌then◌else◌}
use Rattle.ub_base.specs.declared.clause.Kind.{Kind}
use Rattle.ub_base.specs.declared.clause.Kind.TheVariants.{Val, Eff, Body}
use Rattle.c_typed.specs.declared.tree.Place.{Place}
use Rattle.c_typed.specs.declared.tree.Conversion.{Conversion}
use Rattle.c_typed.specs.declared.tree.Conversion.TheVariants as conversion
use Rattle.c_typed.specs.declared.tree.Typed.{Typed, fold-Typed}
use Rattle.c_typed.specs.declared.tree.Node.TheOpen as shape
use Rattle.c_typed.specs.declared.tree.Node.TheOpen.{Node-F, Typed-F}
use Rattle.c_typed.specs.declared.class.Class.{Class}
use Rattle.c_typed.specs.declared.class.Class.TheVariants.{Object, Constant, Plain, Store, Update, Choice, Comma, Call, Isolated}

mutual
  pub data Tree : Type 0 where
    node : (class : Class) → Trees → Tree

  pub data Trees : Type 0 where
    none : Trees
    more : Tree → Trees → Trees

abbrev mutual
  -- how many nodes a tree has
  pub size : Tree → ℕ
  size (node class ts) = suc (sizes ts)

  pub sizes : Trees → ℕ
  sizes none = 0
  sizes (more t ts) = size t + sizes ts

abbrev pub class_of : Tree → Class
class_of (node class ts) = class

abbrev pub operands : Tree → Trees
operands (node class ts) = ts

-- nodes without events
abbrev pub is_quiet_class : Class → Bool
is_quiet_class Object = true
is_quiet_class Constant = true
is_quiet_class _ = false

abbrev pub is_quiet : Tree → Bool
is_quiet t = is_quiet_class (class_of t)

-- the kinds of events of a node, in their canonical order (own)
abbrev pub kinds_of : Class → List Kind
kinds_of Object = []
kinds_of Constant = []
kinds_of Plain = Val ∷ []
kinds_of Store = Val ∷ Eff ∷ []
kinds_of Update = Val ∷ Eff ∷ []
kinds_of Choice = Val ∷ []
kinds_of Comma = Val ∷ []
kinds_of Call = Body ∷ Val ∷ []
kinds_of Isolated = Body ∷ Val ∷ []

abbrev pub first_class : Trees → Option Class
first_class none = None
first_class (more t ts) = Some (class_of t)

-- a conversion between integer types is quiet over a quiet operand
abbrev pub class_over : Option Class → Class
class_over None = Plain
class_over (Some class) = if is_quiet_class class then Constant else Plain

-- a member of an object, or of a quiet member, is quiet
abbrev pub member_class : Option Class → Class
member_class None = Plain
member_class (Some Object) = Object
member_class (Some _) = Plain

abbrev pub conversion_class : Conversion → Option Class → Class
conversion_class (conversion.Integer k) first = class_over first
conversion_class _ first = Plain

abbrev pub trees_from : List Tree → Trees
trees_from [] = none
trees_from (t ∷ ts) = more t (trees_from ts)

-- the class of a node over its operands
abbrev pub node_class : Node-F (Trees → Class) Tree → Trees → Class
node_class (shape.Const z) ts = Constant
node_class (shape.Obj slot) ts = Object
node_class (shape.Func k) ts = Constant
node_class (shape.Str k) ts = Constant
node_class (shape.Conv c) ts = conversion_class c (first_class ts)
node_class (shape.Member offset) ts = member_class (first_class ts)
node_class (shape.Assign initializing access) ts = Store
node_class (shape.Update change old) ts = Update
node_class shape.And ts = Choice
node_class shape.Or ts = Choice
node_class shape.Cond ts = Choice
node_class shape.Comma ts = Comma
node_class (shape.Call discarded) ts = Call
node_class (shape.List object bytes) ts = Store
node_class (shape.Isolated tree) ts = Isolated
node_class _ ts = Plain

abbrev pub typed_tree : Typed-F (Trees → Class) Tree → Tree
typed_tree t = let ts = trees_from t.children in node (t.node ts) ts

-- the tree of a typed tree
abbrev pub tree_of : Typed → Tree
tree_of = fold-Typed (Trees → Class) Tree node_class typed_tree

abbrev pub trees_of : List Typed → Trees
trees_of ts = trees_from (map tree_of ts)
