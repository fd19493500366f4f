use Rattle.std.proofs.Common.{◌≡◌, ◌++◌, map, reverse, drop}
use Rattle.run_control.specs.declared.work.Work.TheVariants.{Enter}
use Rattle.run_control.proofs.jumps.enter_all.Given as goal

abbrev pub invariant-loop-block : goal.invariant-loop-block
invariant-loop-block l = (l.stack.below ≡ l.initial.stack.below)
    × (map Enter (reverse (drop l.block-index l.blocks)) ++ l.stack.now ≡ map Enter (reverse l.blocks) ++ l.initial.stack.now)
