use Rattle.std.proofs.Common.{drop}
use Rattle.run_code.proofs.Owned.{Passes}
use Rattle.run_code.proofs.nodes.+behind_own.Given as goal

-- how many come behind this number, with those of the operands that are left
abbrev pub invariant-loop-child : goal.invariant-loop-child
invariant-loop-child l = Passes l.fn.first l.root l.next (drop l.child-index l.child-items)
