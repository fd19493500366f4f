-- The own trees of a node's listed initializers, from those of its operands.
use Rattle.std.proofs.Common.{◌≡◌, Bor, List, [], ◌∷◌, ◌++◌, map, flat_map, refl, sym, ap, ◌∙◌, append_assoc}
use Rattle.c_typed.specs.declared.tree.Node.{Node, para-Node, para-roll-Node, map-Node, out-Node, roll-Node, roll-out-Node}
use Rattle.c_typed.specs.declared.tree.Node.TheOpen as shape
use Rattle.c_typed.specs.declared.tree.Node.TheOpen.{Node-F}
use Rattle.c_typed.specs.declared.tree.Node.TheVariants as nodes
use Rattle.c_typed.specs.declared.tree.Typed.{Typed, out-Typed, roll-out-Typed, para-roll-Typed}
use Rattle.elaborate.proofs.Grown.{Grown, grown_one, grown_more}
use Rattle.elaborate.specs.Expressions.{node_own, typed_own, own_trees}

abbrev own_node : Node → List Typed
own_node = para-Node (List Typed) (List Typed) node_own typed_own

seconds : (ts : List Typed) → flat_map (λ (child : Typed × List Typed). child.1) (map (λ t. (t, own_trees t)) ts) ≡ flat_map own_trees ts
seconds [] = refl
seconds (t ∷ ts) = ap (λ z. own_trees t ++ z) (seconds ts)

own_of : (t : Typed) → own_trees t ≡ own_node (out-Typed t).node ++ flat_map own_trees (out-Typed t).children
own_of t =
    ap own_trees (sym (roll-out-Typed t))
    ∙ (para-roll-Typed (List Typed) (List Typed) node_own typed_own (out-Typed t)
    ∙ ap (λ z. own_node (out-Typed t).node ++ z) (seconds (out-Typed t).children))

isolated : (u : Typed) → own_node (nodes.Isolated u) ≡ u ∷ own_trees u
isolated u = ap own_node (sym (nodes.rolls-Isolated u)) ∙ para-roll-Node (List Typed) (List Typed) node_own typed_own (shape.Isolated u)

pub own_isolated : (t u : Typed) → (out-Typed t).node ≡ nodes.Isolated u → own_trees t ≡ (u ∷ own_trees u) ++
    flat_map own_trees (out-Typed t).children
own_isolated t u e = own_of t ∙ ap (λ z. z ++ flat_map own_trees (out-Typed t).children) (ap own_node e ∙ isolated u)

no_own : (d : Node-F Node Typed) → ((u : Typed) → d ≡ shape.Isolated u → ⊥) →
    node_own (map-Node Node Typed (Node × List Typed) (Typed × List Typed) (λ y. (y, own_node y)) (λ y. (y, own_trees y)) d) ≡ []
no_own (shape.Isolated u) f = absurd (f u refl)
no_own _ f = refl

pub own_other : (t : Typed) → ((u : Typed) → (out-Typed t).node ≡ nodes.Isolated u → ⊥) → own_trees t ≡ flat_map own_trees (out-Typed t).children
own_other t f =
    own_of t
    ∙ ap (λ z. z ++ flat_map own_trees (out-Typed t).children)
    (ap own_node (sym (roll-out-Node (out-Typed t).node))
    ∙ (para-roll-Node (List Typed) (List Typed) node_own typed_own (out-Node (out-Typed t).node)
    ∙ no_own (out-Node (out-Typed t).node) (λ u e. f u (sym (roll-out-Node (out-Typed t).node) ∙ (ap roll-Node e ∙ nodes.rolls-Isolated u)))))

-- before the operands, where the node is a listed initializer
pub start_isolated : (root u v : Typed) (items : List Typed) (old pushed grown roots : List (Bor Typed)) (at : Bor Typed) →
    (out-Typed root).node ≡ nodes.Isolated v → u ≡ v → items ≡ (out-Typed root).children
    → pushed ≡ old ++ at ∷ [] → at.now ≡ u → Grown pushed grown (own_trees u) → roots ≡ grown
    → map (λ tree. tree.now) roots ++ flat_map own_trees items ≡ map (λ tree. tree.now) old ++ own_trees root
start_isolated root u v items old pushed grown roots at i e k p o r q =
    ap (λ z. map (λ tree. tree.now) z ++ flat_map own_trees items) q
    ∙ (ap (λ z. z ++ flat_map own_trees items) (grown_more old pushed grown (at.now ∷ []) (own_trees u) (grown_one old pushed at p) r)
    ∙ (append_assoc (map (λ tree. tree.now) old) (at.now ∷ own_trees u) (flat_map own_trees items)
    ∙ ap (λ z. map (λ tree. tree.now) old ++ z) (ap (λ z. (z ∷ own_trees u) ++ flat_map own_trees items) o
    ∙ sym (own_isolated root u (i ∙ ap nodes.Isolated (sym e)) ∙ ap (λ z. (u ∷ own_trees u) ++ flat_map own_trees z) (sym k)))))

-- and where it is none
pub start_other : (root : Typed) (items : List Typed) (old roots : List (Bor Typed)) → ((u : Typed) → (out-Typed root).node ≡ nodes.Isolated u → ⊥) →
    items ≡ (out-Typed root).children → roots ≡ old
    → map (λ tree. tree.now) roots ++ flat_map own_trees items ≡ map (λ tree. tree.now) old ++ own_trees root
start_other root items old roots f k q =
    ap (λ z. map (λ tree. tree.now) z ++ flat_map own_trees items) q
    ∙ ap (λ z. map (λ tree. tree.now) old ++ z) (ap (λ z. flat_map own_trees z) k ∙ sym (own_other root f))
