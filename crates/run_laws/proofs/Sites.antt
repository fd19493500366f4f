-- What holds of each node of a tree holds of its root, and of those of the trees below it.
use Rattle.std.proofs.Common.{arith, ◌≡◌, ◌+◌, ◌<◌, ◌≤◌, ◌⊎◌, inl, inr, ℕ, zero, suc, List, [], ◌∷◌, ◌++◌, map, Option, Some, None, slice_get}
use Rattle.std.proofs.Common.{sym, ap, subst, ◌∙◌}
use Rattle.std.specs.List.{All}
use Rattle.std.proofs.lemmas.List.Elements.{All-nil, All-cons, All-head, All-tail}
use Rattle.std.proofs.lemmas.Option.{slice_get_within}
use Rattle.c_types.specs.Types.{CType}
use Rattle.c_typed.specs.declared.tree.Node.{Node, fold-Node, fold_out-Node, map-Node}
use Rattle.c_typed.specs.declared.tree.Node.TheOpen.{Node-F}
use Rattle.c_typed.specs.declared.tree.Typed.{Typed, out-Typed, fold_out-Typed}
use Rattle.c_typed.specs.Sites.{Site, Seen, SeenNode, seen_node, seen_tree, type_seen, all_sites, seen, sites}
use Rattle.c_typed.specs.Tree.{size, sizes, tree_of, trees_of}
use Rattle.program_view.proofs.Seen.{node_in, operands_in, own_type, by_size, size_at}
use Rattle.run_layout.specs.declared.nodes.NodeInfo.{NodeInfo}
use Rattle.run_layout.specs.Numbered.{IsAt, AreBelow, AreNoted, AreNodes}

-- a root as the node above sees it
abbrev pub seen_root : Node-F Node Typed → SeenNode
seen_root z = seen_node (map-Node Node Typed SeenNode Seen (fold-Node SeenNode Seen seen_node seen_tree) seen z)

abbrev pub site_in : Node-F Node Typed → CType → List Typed → Site
site_in d ty ts = record { head = (seen_root d).head; ty = ty; operands = map type_seen (map seen ts) }

-- the nodes of a tree with this root and these operands
abbrev opened : Node-F Node Typed → CType → List Typed → List Site
opened z ty ts = site_in z ty ts ∷ ((seen_root z).inner ++ all_sites (map seen ts))

abbrev sites_seen : Seen → List Site
sites_seen s = s.sites

abbrev by_node : Typed → SeenNode → List Site
by_node t n =
    let ss = map seen (operands_in t) in
    record { head = n.head; ty = own_type t; operands = map type_seen ss } ∷ (n.inner ++ all_sites ss)

sites_of : (t : Typed) → sites t ≡ opened (node_in t) (own_type t) (operands_in t)
sites_of t =
    ap sites_seen (fold_out-Typed SeenNode Seen seen_node seen_tree t)
    ∙ ap (by_node t) (fold_out-Node SeenNode Seen seen_node seen_tree (out-Typed t).node)

pub all_both : {X : Type 0} (P : X → Type 0) (xs ys : List X) → All P (xs ++ ys) → All P xs × All P ys
all_both P [] ys h = (All-nil P, h)
all_both P (x ∷ xs) ys h =
    let rest = all_both P xs ys (All-tail P x (xs ++ ys) h) in
    (All-cons P x xs (All-head P x (xs ++ ys) h) rest.0, rest.1)

pub parts : (Q : Site → Type 0) (t : Typed) → All Q (sites t)
    → Q (site_in (node_in t) (own_type t) (operands_in t)) × All Q (all_sites (map seen (operands_in t)))
parts Q t all =
    let root = site_in (node_in t) (own_type t) (operands_in t) in
    let inner = (seen_root (node_in t)).inner in
    let rest = all_sites (map seen (operands_in t)) in
    let there : All Q (root ∷ (inner ++ rest)) = subst (All Q) (sites_of t) all in
    (All-head Q root (inner ++ rest) there, (all_both Q inner rest (All-tail Q root (inner ++ rest) there)).1)

less_or : (n m : ℕ) → (n < m) ⊎ (m ≤ n)
less_or n zero = inr (omega arith)
less_or zero (suc m) = inl (omega arith)
less_or (suc n) (suc m) = elim (less_or n m) [ inl l ↦ inl (omega (arith, l)) | inr l ↦ inr (omega (arith, l)) ]

pub same_node : (nodes : List NodeInfo) (k : ℕ) (x y : NodeInfo) → slice_get nodes k ≡ Some x → slice_get nodes k ≡ Some y → x ≡ y
same_node nodes k x y a b = let both : Some x ≡ Some y = sym a ∙ b in cc

pub operands_below : (firsts : List ℕ) (nodes : List NodeInfo) → AreNoted firsts nodes → (t : Typed) (k : ℕ) (parent : Option ℕ) → IsAt nodes k parent t
    → AreBelow nodes k (suc k) (operands_in t)
operands_below firsts nodes noted t k parent is = subst (λ z. AreBelow nodes k (suc k) (operands_in z)) is.2 (noted k is.0 is.1).below

-- the trees of the nodes by their numbers
module _ (Q : Site → Type 0) (firsts : List ℕ) (nodes : List NodeInfo) (noted : AreNoted firsts nodes) where
  abbrev HoldsAt : ℕ → Type 0
  HoldsAt n = (x : NodeInfo) → slice_get nodes n ≡ Some x → All Q (sites x.tree.now)

  abbrev Spreads : Typed → Type 0
  Spreads t = All Q (sites t) → (k : ℕ) (parent : Option ℕ) → IsAt nodes k parent t → (n : ℕ) → k ≤ n → n < k + size (tree_of t) → HoldsAt n

  all_spread : (ts : List Typed) → ((u : Typed) → size (tree_of u) ≤ sizes (trees_of ts) → Spreads u) → All Q (all_sites (map seen ts))
      → (parent m : ℕ) → AreBelow nodes parent m ts → (n : ℕ) → m ≤ n → n < m + sizes (trees_of ts) → HoldsAt n
  all_spread [] ih all parent m b n from to = absurd (omega (arith, from, to))
  all_spread (t ∷ ts) ih all parent m b n from to =
      let s = all_both Q (sites t) (all_sites (map seen ts)) all in
      elim (less_or n (m + size (tree_of t))) [
        | inl l ↦ ih t (omega arith) s.0 m (Some parent) b.0 n from l
        | inr r ↦ all_spread ts (λ u le. ih u (omega (arith, le))) s.1 parent (m + size (tree_of t)) b.1 n r (omega (arith, to))
      ]

  root_holds : (t : Typed) (k : ℕ) (parent : Option ℕ) → All Q (sites t) → IsAt nodes k parent t → (n : ℕ) → n ≡ k → HoldsAt n
  root_holds t k parent all is n e = λ x at.
      let same : x ≡ is.0 = same_node nodes k x is.0 (sym (ap (slice_get nodes) e) ∙ at) is.1 in
      let tree : x.tree.now ≡ t = ap (λ (z : NodeInfo). z.tree.now) same ∙ is.2 in
      subst (λ z. All Q (sites z)) (sym tree) all

  spreads : (t : Typed) → Spreads t
  spreads = by_size Spreads (λ t ih all k parent is n from to.
      let count = size_at t in
      elim (less_or n (suc k)) [
        | inl l ↦ root_holds t k parent all is n (omega (arith, from, l))
        | inr r ↦ all_spread (operands_in t) ih (parts Q t all).1 k (suc k) (operands_below firsts nodes noted t k parent is) n r (omega (arith, to, count))
      ])

pub in_nodes : (Q : Site → Type 0) (firsts : List ℕ) (root : Typed) (nodes : List NodeInfo) (n : ℕ) (x : NodeInfo) → AreNodes firsts root nodes
    → All Q (sites root) → slice_get nodes n ≡ Some x → All Q (sites x.tree.now)
in_nodes Q firsts root nodes n x are all at =
    let within = slice_get_within nodes n x at in
    let count = are.count in
    spreads Q firsts nodes are.each root all 0 None are.top n (omega arith) (omega (arith, within, count)) x at
