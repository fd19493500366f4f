-- The parts of a tree as the code visits them.
use Rattle.std.specs.Prelude.{List, map, Option, Some, None}
use Rattle.std.specs.Borrow.{Bor}
use Rattle.c_types.specs.declared.ty.Qual.{Qual}
use Rattle.c_types.specs.Types.{CType, Qualified, qualified_of}
use Rattle.c_typed.specs.declared.tree.Node.{Node, fold-Node}
use Rattle.c_typed.specs.declared.tree.Typed.{Typed}
use Rattle.c_typed.specs.Sites.{Head, Seen, SeenNode, Site, seen_node, seen_tree, seen, type_seen, all_sites}

abbrev pub node_seen : Node → SeenNode
node_seen = fold-Node SeenNode Seen seen_node seen_tree

abbrev pub head_at : Node → Head
head_at n = (node_seen n).head

-- the types of operands
abbrev pub types_of : List Typed → List CType
types_of ts = map type_seen (map seen ts)

abbrev pub sites_of : List Typed → List Site
sites_of ts = all_sites (map seen ts)

-- a reference that is perhaps there, as the object that it names
abbrev pub object_seen : Option (Bor Qual) → Option Qualified
object_seen None = None
object_seen (Some q) = Some (qualified_of q.now)
