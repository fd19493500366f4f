-- What takes an object's address in a tree: its node, or an operand.
use Rattle.std.proofs.Common.{◌≡◌, Bool, false, ◌||◌, List, map, sym, ap, ◌∙◌}
use Rattle.c_typed.specs.declared.tree.Slot.{Slot}
use Rattle.c_typed.specs.declared.tree.Typed.{Typed, out-Typed, fold_out-Typed}
use Rattle.static_places.specs.Private.{NodeTakes, Takes, node_takes, tree_takes, takes, takes_node, some_takes}

-- where the node takes it not, the operands that are left at the start are all of them
pub begun : (slot : Slot) (t : Typed) (place own first : Bool) (items : List Typed) → own ≡ (takes_node slot (out-Typed t).node).own place → own ≡ false
    → first ≡ (takes_node slot (out-Typed t).node).accesses → items ≡ (out-Typed t).children
    → some_takes first (map (takes slot) items) ≡ takes slot t place
begun slot t place own first items e f a k =
    ap (λ z. some_takes z (map (takes slot) items)) a
    ∙ (ap (λ z. some_takes (takes_node slot (out-Typed t).node).accesses (map (takes slot) z)) k
    ∙ (ap (λ z. z || some_takes (takes_node slot (out-Typed t).node).accesses (map (takes slot) (out-Typed t).children)) (sym f ∙ e)
    ∙ sym (ap (λ (g : Takes). g place) (fold_out-Typed NodeTakes Takes (node_takes slot) tree_takes t))))
