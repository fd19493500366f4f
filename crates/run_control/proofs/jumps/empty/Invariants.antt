use Rattle.std.proofs.Common.{◌≡◌, ◌++◌, length}
use Rattle.run_control.specs.Links.{blocks_in}
use Rattle.run_control.proofs.jumps.empty.Given as goal

abbrev pub invariant-loop-work : goal.invariant-loop-work
invariant-loop-work l = (l.stack.below ≡ l.fn.stack.below) × (l.blocks.items ++ blocks_in l.stack.now ≡ blocks_in l.fn.stack.now)

abbrev pub decreases-loop-work : goal.decreases-loop-work
decreases-loop-work l = length l.stack.now
