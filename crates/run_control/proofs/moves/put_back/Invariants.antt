use Rattle.std.proofs.Common.{◌≡◌, ◌++◌, length}
use Rattle.run_control.proofs.moves.put_back.Given as goal

abbrev pub invariant-loop-work : goal.invariant-loop-work
invariant-loop-work l = (l.stack.below ≡ l.initial.stack.below) × (l.kept.items ++ l.stack.now ≡ l.initial.kept.items ++ l.initial.stack.now)

abbrev pub decreases-loop-work : goal.decreases-loop-work
decreases-loop-work l = length l.kept.items
