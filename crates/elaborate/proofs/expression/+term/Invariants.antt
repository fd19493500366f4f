use Rattle.std.proofs.Common.{◌≡◌, ◌+◌, ◌<◌, ◌^◌, ◌++◌, map, drop}
use Rattle.c_typed.specs.declared.tree.Typed.{out-Typed}
use Rattle.c_typed.specs.Tree.{tree_of, trees_of, size, sizes}
use Rattle.core_ir.specs.Term.{term_of}
use Rattle.elaborate.specs.Terms.{capped, capped_terms}
use Rattle.elaborate.proofs.expression.+term.Given as goal

-- the terms so far, and those of the operands that are left
abbrev pub invariant-loop-operand : goal.invariant-loop-operand
invariant-loop-operand l =
    (l.next < 2 ^ 32) × (capped (l.next + sizes (trees_of (drop l.operand-index l.operand-items))) ≡ capped (l.number + size (tree_of l.root)))
    × (map term_of l.parts ++ capped_terms l.next (trees_of (drop l.operand-index l.operand-items)) ≡ capped_terms (capped (l.number + 1))
    (trees_of (out-Typed l.root).children))
