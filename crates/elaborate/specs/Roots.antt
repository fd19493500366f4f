-- The trees at roots.
use Rattle.std.specs.Borrow.{Bor}
use Rattle.std.specs.Prelude.{List, map}
use Rattle.c_typed.specs.declared.tree.Typed.{Typed}
use Rattle.c_typed.specs.Tree.{Tree, tree_of}

abbrev pub tree_at : Bor Typed → Tree
tree_at root = tree_of root.now

abbrev pub trees_at : List (Bor Typed) → List Tree
trees_at = map tree_at
