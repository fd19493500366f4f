-- What is kept of other frames stays.
use Rattle.std.proofs.Common.{◌≡◌, ℕ, suc, ◌-◌, List, length, Some, slice_get}
use Rattle.seq_order.specs.declared.done.Marks.{Marks}
use Rattle.run_machine.proofs.picks.keep_done.Given as goal

abbrev pub invariant-loop-alloc : goal.invariant-loop-alloc
invariant-loop-alloc l = record {
  kept : (j : ℕ) (other : List Marks) → slice_get l.fn.strayed.items j ≡ Some other → slice_get l.strayed.items j ≡ Some other;
}

abbrev pub decreases-loop-alloc : goal.decreases-loop-alloc
decreases-loop-alloc l = suc l.height - length l.strayed.items
