-- Which nodes of a full expression are loads (6.3.2.1p2).
use Rattle.std.specs.Prelude.{Bool, true, false, List, [], ◌∷◌, map}
use Rattle.c_typed.specs.declared.tree.Typed.{Typed, fold-Typed}
use Rattle.c_typed.specs.declared.tree.Node.TheOpen as shape
use Rattle.c_typed.specs.declared.tree.Node.TheOpen.{Node-F, Typed-F}

mutual
  -- whether a node is a load, and the same of its operands
  pub data Loads : Type 0 where
    loads : Bool → LoadsList → Loads

  pub data LoadsList : Type 0 where
    nil : LoadsList
    cons : Loads → LoadsList → LoadsList

abbrev pub is_load : Loads → Bool
is_load (loads b fs) = b

abbrev pub below : Loads → LoadsList
below (loads b fs) = fs

-- of the first operand; where nothing is said of one, it may be a load
abbrev pub first : LoadsList → Loads
first nil = loads true nil
first (cons f fs) = f

abbrev pub rest : LoadsList → LoadsList
rest nil = nil
rest (cons f fs) = fs

abbrev pub loads_from : List Loads → LoadsList
loads_from [] = nil
loads_from (f ∷ fs) = cons f (loads_from fs)

abbrev pub node_loads : Node-F Bool Loads → Bool
node_loads (shape.Load how) = true
node_loads _ = false

abbrev pub typed_loads : Typed-F Bool Loads → Loads
typed_loads t = loads t.node (loads_from t.children)

-- those of a typed tree
abbrev pub loads_of : Typed → Loads
loads_of = fold-Typed Bool Loads node_loads typed_loads

abbrev pub loads_of_list : List Typed → LoadsList
loads_of_list ts = loads_from (map loads_of ts)
