use Rattle.std.proofs.Common.{ℕ, suc, List, drop}
use Rattle.c_typed.specs.declared.tree.Typed.{out-Typed}
use Rattle.run_layout.specs.Resolved.{operands_from}
use Rattle.run_layout.specs.Numbered.{AreNoted, AreBelow}
use Rattle.run_code.proofs.Walked.{Walks}
use Rattle.run_code.proofs.nodes.operands.Given as goal

-- the operands so far, and those that are left
abbrev pub invariant-loop-child : goal.invariant-loop-child
invariant-loop-child l =
    (firsts : List ℕ) → AreNoted firsts l.nodes → AreBelow l.nodes l.number (suc l.number) (out-Typed l.tree).children
    → Walks firsts l.nodes l.number l.at (drop l._child-index l._child-items) l.operands.items
    (operands_from firsts (suc l.number) (out-Typed l.tree).children)
