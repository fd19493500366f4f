use Rattle.std.proofs.Common.{◌≡◌, length}
use Rattle.c_model.specs.Control.{ready_work}
use Rattle.run_control.specs.View.{Meaning, todo_of}
use Rattle.run_control.proofs.stack.Stack.next.Given as goal

-- the pieces that were taken off are marks, and blocks of which nothing is left
abbrev pub invariant-loop-work : goal.invariant-loop-work
invariant-loop-work l =
    (l.self.below ≡ l.initial.self.below)
    × ((m : Meaning) → ready_work (todo_of m l.self.now) ≡ ready_work (todo_of m l.initial.self.now))

abbrev pub decreases-loop-work : goal.decreases-loop-work
decreases-loop-work l = length l.self.now
