use Rattle.std.proofs.Common.{◌≡◌, ◌++◌, length}
use Rattle.run_control.specs.View.{Meaning, todo_of}
use Rattle.run_control.specs.Moves.{moved}
use Rattle.run_control.proofs.moves.go.Given as goal

-- what is kept so far, and what is still on the way
abbrev pub invariant-loop-work : goal.invariant-loop-work
invariant-loop-work l =
    (l.stack.below ≡ l.fn.stack.below)
    × ((m : Meaning) → moved l.how (todo_of m l.fn.stack.now) ≡ todo_of m l.kept.items ++ moved l.how (todo_of m l.stack.now))

abbrev pub decreases-loop-work : goal.decreases-loop-work
decreases-loop-work l = length l.stack.now
