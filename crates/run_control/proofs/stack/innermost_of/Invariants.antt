use Rattle.run_control.proofs.Stacks.{Looks}
use Rattle.run_control.proofs.stack.innermost_of.Given as goal

-- nothing above leaves a block
abbrev pub invariant-loop-at : goal.invariant-loop-at
invariant-loop-at l = Looks l.works l.at

abbrev pub decreases-loop-at : goal.decreases-loop-at
decreases-loop-at l = l.at
