-- The nodes of a tree, each with its operands, in preorder: the node of number n stands at place n. The own tree of a listed
-- initializer has numbers of its own.
use Rattle.std.specs.Prelude.{List, [], ◌∷◌, ◌++◌, map}
use Rattle.std.specs.Borrow.{Bor}
use Rattle.c_typed.specs.declared.tree.Node.{Node}
use Rattle.c_typed.specs.declared.tree.Node.TheOpen.{Node-F, Typed-F}
use Rattle.c_typed.specs.declared.tree.Typed.{Typed, roll-Typed, para-Typed}

abbrev pub joined : {A : Type 0} → List (List A) → List A
joined [] = []
joined (ts ∷ tss) = ts ++ joined tss

abbrev pub all_second : List (Typed × List Typed) → List Typed
all_second [] = []
all_second (t ∷ ts) = t.1 ++ all_second ts

abbrev pub firsts : List (Typed × List Typed) → List Typed
firsts [] = []
firsts (t ∷ ts) = t.0 ∷ firsts ts

abbrev pub node_itself : Node-F (Node × Unit {0}) (Typed × List Typed) → Unit {0}
node_itself n = tt

abbrev pub itself : Typed-F (Node × Unit {0}) (Typed × List Typed) → Typed
itself t = roll-Typed (record { node = t.node.0; ty = t.ty; line = t.line; children = firsts t.children })

abbrev pub with_operands : Typed-F (Node × Unit {0}) (Typed × List Typed) → List Typed
with_operands t = itself t ∷ all_second t.children

abbrev pub nodes_of : Typed → List Typed
nodes_of = para-Typed (Unit {0}) (List Typed) node_itself with_operands

abbrev pub tree_at : Bor Typed → Typed
tree_at root = root.now

-- the trees at these references
abbrev pub trees_at : List (Bor Typed) → List Typed
trees_at = map tree_at
