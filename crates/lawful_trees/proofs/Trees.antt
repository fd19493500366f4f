-- The nodes of a tree: its root, those of the listed expression that this holds, and those of its operands.
use Rattle.std.proofs.Common.{◌≡◌, ℕ, ◌+◌, ◌<◌, List, ◌∷◌, ◌++◌, length, get_or, drop, ap, subst}
use Rattle.std.specs.List.{All}
use Rattle.std.proofs.lemmas.List.Elements.{All-cons, All-append, All-same}
use Rattle.c_types.specs.Types.{type_of}
use Rattle.c_typed.specs.declared.tree.Typed.{Typed, out-Typed, fold_out-Typed}
use Rattle.c_typed.specs.Sites.{Site, Seen, SeenNode, seen_node, seen_tree, sites}
use Rattle.lawful_trees.specs.Views.{head_at, node_seen, types_of, sites_of}
use Rattle.lawful_trees.proofs.Steps.{drop_one}

abbrev pub root : Typed → List Typed → Site
root t operands = record { head = head_at (out-Typed t).node; ty = type_of (out-Typed t).ty; operands = types_of operands }

abbrev sites_seen : Seen → List Site
sites_seen s = s.sites

sites-root : (t : Typed) → sites t ≡ root t (out-Typed t).children ∷ ((node_seen (out-Typed t).node).inner ++ sites_of (out-Typed t).children)
sites-root t = ap sites_seen (fold_out-Typed SeenNode Seen seen_node seen_tree t)

pub All-sites : (P : Site → Type 0) (t : Typed) (operands : List Typed) → operands ≡ (out-Typed t).children → P (root t operands)
    → All P (node_seen (out-Typed t).node).inner → All P (sites_of operands) → All P (sites t)
All-sites P t operands e own inner rest =
    let Q : List Typed → Type 0 = λ ts. All P (root t ts ∷ ((node_seen (out-Typed t).node).inner ++ sites_of ts)) in
    let all = All-cons P (root t operands) ((node_seen (out-Typed t).node).inner ++ sites_of operands) own
    (All-append P (node_seen (out-Typed t).node).inner (sites_of operands) inner rest) in
    All-same P (sites t) (root t (out-Typed t).children ∷ ((node_seen (out-Typed t).node).inner ++ sites_of (out-Typed t).children)) (sites-root t)
    (subst Q e all)

-- a step of a loop over trees
pub All-sites_of : (P : Site → Type 0) (ts : List Typed) (i : ℕ) (t : Typed) → i < length ts → t ≡ get_or ts i t
    → All P (sites t) → All P (sites_of (drop (i + 1) ts)) → All P (sites_of (drop i ts))
All-sites_of P ts i t h e own rest =
    All-same P (sites_of (drop i ts)) (sites t ++ sites_of (drop (i + 1) ts)) (ap sites_of (drop_one ts i t h e))
    (All-append P (sites t) (sites_of (drop (i + 1) ts)) own rest)
