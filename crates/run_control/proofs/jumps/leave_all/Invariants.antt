use Rattle.std.proofs.Common.{◌≡◌, ◌++◌, map, length}
use Rattle.run_control.specs.declared.work.Work.TheVariants.{Leave}
use Rattle.run_control.proofs.jumps.leave_all.Given as goal

abbrev pub invariant-loop-block : goal.invariant-loop-block
invariant-loop-block l = (l.stack.below ≡ l.initial.stack.below)
    × (map Leave l.blocks.items ++ l.stack.now ≡ map Leave l.initial.blocks.items ++ l.initial.stack.now)

abbrev pub decreases-loop-block : goal.decreases-loop-block
decreases-loop-block l = length l.blocks.items
