-- The operands of a typed tree are its children, seen as trees.
use Rattle.std.proofs.Common.{◌≡◌, ℕ, zero, suc, ◌<◌, List, [], ◌∷◌, length, get_or, Some, refl, sym, ap, ◌∙◌, arith}
use Rattle.c_typed.specs.declared.tree.Typed.{Typed, out-Typed, fold_out-Typed}
use Rattle.c_typed.specs.declared.class.Class.{Class}
use Rattle.c_typed.specs.Tree.{Tree, Trees, none, more, tree_of, trees_of, operands, node_class, typed_tree}
use Rattle.seq_order.proofs.Located.{nth, count}

pub operands_of : (t : Typed) → operands (tree_of t) ≡ trees_of (out-Typed t).children
operands_of t = ap operands (fold_out-Typed (Trees → Class) Tree node_class typed_tree t)

nth_child : (cs : List Typed) (j : ℕ) (x : Typed) → j < length cs → x ≡ get_or cs j x → nth (trees_of cs) j ≡ Some (tree_of x)
nth_child [] j x h e = absurd (omega (arith, h))
nth_child (c ∷ cs) zero x h e = ap (λ z. Some (tree_of z)) (sym e)
nth_child (c ∷ cs) (suc j) x h e = nth_child cs j x (omega (arith, h)) e

pub child : (t x : Typed) (j : ℕ) → j < length (out-Typed t).children → x ≡ get_or (out-Typed t).children j x → nth (operands (tree_of t)) j ≡ Some (tree_of x)
child t x j h e = ap (λ z. nth z j) (operands_of t) ∙ nth_child (out-Typed t).children j x h e

count_children : (cs : List Typed) → count (trees_of cs) ≡ length cs
count_children [] = refl
count_children (c ∷ cs) = ap (λ z. suc z) (count_children cs)

pub counted : (t : Typed) → count (operands (tree_of t)) ≡ length (out-Typed t).children
counted t = ap count (operands_of t) ∙ count_children (out-Typed t).children

pub child_of : (t x : Typed) (ys : List Typed) (j : ℕ) → j < length (out-Typed t).children → ys ≡ (out-Typed t).children → x ≡ get_or ys j x →
    nth (operands (tree_of t)) j ≡ Some (tree_of x)
child_of t x ys j h q e = child t x j h (e ∙ ap (λ z. get_or z j x) q)

nth_there : (ts : Trees) (j : ℕ) → j < count ts → (x : Tree) × (nth ts j ≡ Some x)
nth_there none j h = absurd (omega (arith, h))
nth_there (more t ts) zero h = (t, refl)
nth_there (more t ts) (suc j) h = nth_there ts j (omega (arith, h))

pub child_there : (t : Typed) (j : ℕ) → j < length (out-Typed t).children → (x : Tree) × (nth (operands (tree_of t)) j ≡ Some x)
child_there t j h = let q = counted t in nth_there (operands (tree_of t)) j (omega (arith, h, q))
