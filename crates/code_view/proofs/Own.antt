-- What holds of the nodes of a tree holds of those of the own trees of its listed initializers.
use Rattle.std.proofs.Common.{List, [], ◌∷◌, ◌++◌, map, flat_map, sym, subst}
use Rattle.std.specs.List.{All}
use Rattle.std.proofs.lemmas.List.Elements.{All-nil, All-cons, All-tail, All-append}
use Rattle.c_types.specs.Types.{type_of}
use Rattle.c_typed.specs.declared.tree.Node.{Node, fold-Node, fold-roll-Node, para-Node, para-roll-Node, map-Node, roll-Node}
use Rattle.c_typed.specs.declared.tree.Node.TheFolds.{ind-Typed}
use Rattle.c_typed.specs.declared.tree.Node.TheOpen as shape
use Rattle.c_typed.specs.declared.tree.Node.TheOpen.{Node-F, Typed-F}
use Rattle.c_typed.specs.declared.tree.Typed.{Typed, fold-roll-Typed, para-roll-Typed, map-Typed, roll-Typed}
use Rattle.c_typed.specs.Sites.{Site, Seen, SeenNode, seen_node, seen_tree, inner_sites, type_seen, all_sites, seen, sites}
use Rattle.elaborate.specs.Expressions.{node_own, typed_own, own_trees, full_trees}
use Rattle.code_view.proofs.Viewed.{all_both}

abbrev T : Type 0
T = List Typed

abbrev node_seen : Node → SeenNode
node_seen = fold-Node SeenNode Seen seen_node seen_tree

abbrev own_node : Node → T
own_node = para-Node T T node_own typed_own

abbrev inner_of : SeenNode → List Site
inner_of n = n.inner

abbrev sites_seen : Seen → List Site
sites_seen s = s.sites

module _ (Q : Site → Type 0) where
  abbrev Each : Typed → Type 0
  Each t = All Q (sites t)

  abbrev NodeOwn : Node → Type 0
  NodeOwn n = All Q (node_seen n).inner → All Each (own_node n)

  abbrev TreeOwn : Typed → Type 0
  TreeOwn t = Each t → All Each (own_trees t)

  -- one layer
  abbrev NodeAt : Node-F Node Typed → Type 0
  NodeAt z = All Q (inner_sites (map-Node Node Typed SeenNode Seen node_seen seen z))
      → All Each (node_own (map-Node Node Typed (Node × T) (Typed × T) (λ n. (n, own_node n)) (λ t. (t, own_trees t)) z))

  abbrev TreeAt : Typed-F Node Typed → Type 0
  TreeAt z = All Q (seen_tree (map-Typed Node Typed SeenNode Seen node_seen seen z)).sites
      → All Each (typed_own (map-Typed Node Typed (Node × T) (Typed × T) (λ n. (n, own_node n)) (λ t. (t, own_trees t)) z))

  rolled_node : (z : Node-F Node Typed) → NodeAt z → NodeOwn (roll-Node z)
  rolled_node z h = λ a.
      subst (All Each) (sym (para-roll-Node T T node_own typed_own z))
      (h (subst (λ (n : SeenNode). All Q n.inner) (fold-roll-Node SeenNode Seen seen_node seen_tree z) a))

  rolled_tree : (z : Typed-F Node Typed) → TreeAt z → TreeOwn (roll-Typed z)
  rolled_tree z h = λ a.
      subst (All Each) (sym (para-roll-Typed T T node_own typed_own z))
      (h (subst (λ (s : Seen). All Q s.sites) (fold-roll-Typed SeenNode Seen seen_node seen_tree z) a))

  abbrev OwnNode : Type 0
  OwnNode = (n : Node) × NodeOwn n

  abbrev OwnTree : Type 0
  OwnTree = (t : Typed) × TreeOwn t

  at_node : (y : Node-F OwnNode OwnTree) → NodeAt (map-Node OwnNode OwnTree Node Typed (λ e. e.0) (λ e. e.0) y)
  at_node (shape.Isolated t) = λ h. All-cons Each t.0 (own_trees t.0) h (t.1 h)
  at_node _ = λ h. All-nil Each

  of_operands : (cs : List OwnTree) → All Q (all_sites (map seen (map (λ e. e.0) cs)))
      → All Each (flat_map (λ (child : Typed × T). child.1) (map (λ t. (t, own_trees t)) (map (λ e. e.0) cs)))
  of_operands [] h = All-nil Each
  of_operands (c ∷ cs) h =
      let s = all_both Q (sites c.0) (all_sites (map seen (map (λ e. e.0) cs))) h in
      All-append Each (own_trees c.0) (flat_map (λ (child : Typed × T). child.1) (map (λ t. (t, own_trees t)) (map (λ e. e.0) cs))) (c.1 s.0)
      (of_operands cs s.1)

  at_tree : (y : Typed-F OwnNode OwnTree) → TreeAt (map-Typed OwnNode OwnTree Node Typed (λ e. e.0) (λ e. e.0) y)
  at_tree y = λ h.
      let kids = map (λ (e : OwnTree). e.0) y.children in
      let root : Site = record { head = (node_seen y.node.0).head; ty = type_of y.ty; operands = map type_seen (map seen kids) } in
      let s = all_both Q (node_seen y.node.0).inner (all_sites (map seen kids))
      (All-tail Q root ((node_seen y.node.0).inner ++ all_sites (map seen kids)) h) in
      All-append Each (own_node y.node.0) (flat_map (λ (child : Typed × T). child.1) (map (λ t. (t, own_trees t)) kids)) (y.node.1 s.0)
      (of_operands y.children s.1)

  tree_own : (t : Typed) → TreeOwn t
  tree_own = ind-Typed NodeOwn TreeOwn
      (λ x y is. rolled_node x (subst NodeAt is (at_node y)))
      (λ x y is. rolled_tree x (subst TreeAt is (at_tree y)))

  pub all_own : (t : Typed) → Each t → All Each (full_trees t)
  all_own t h = All-cons Each t (own_trees t) h (tree_own t h)
