use Rattle.std.proofs.Common.{◌≡◌, ◌++◌, ℕ, suc, List, drop, Option}
use Rattle.c_typed.specs.declared.tree.Typed.{out-Typed}
use Rattle.c_typed.specs.Tree.{tree_of, size}
use Rattle.run_layout.specs.Numbered.{IsAt, AreBelow, AreNoted}
use Rattle.run_layout.proofs.AtOnce.{chosen_from}
use Rattle.run_code.proofs.choices.+chosen_at_once.Given as goal

-- the choices so far, and those of the operands that are left
abbrev pub invariant-loop-child : goal.invariant-loop-child
invariant-loop-child l =
    (firsts : List ℕ) (parent : Option ℕ) → AreNoted firsts l.nodes → IsAt l.nodes l.number parent l.root
    → (l.all.items ++ chosen_from firsts (drop l.child-index l.child-items) l.at ≡
    l.fn.all.items ++ chosen_from firsts (out-Typed l.root).children (suc l.number))
    × AreBelow l.nodes l.number l.at (drop l.child-index l.child-items)

abbrev pub decreases-chosen_at_once : goal.decreases-chosen_at_once
decreases-chosen_at_once l = size (tree_of l.root.now)
