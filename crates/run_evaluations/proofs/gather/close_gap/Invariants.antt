-- What stands before the place is as it was, what stands behind it did so before, and what is behind the entries that are gone stands so much nearer.
use Rattle.std.specs.Prelude.{◌≡◌, ◌≤◌, ◌-◌, ℕ, slice_get}
use Rattle.evaluation_log.specs.Loose.{Thins}
use Rattle.run_evaluations.proofs.gather.close_gap.Given as goal

abbrev pub invariant-loop-i : goal.invariant-loop-i
invariant-loop-i l = record {
  thin : Thins l.fn.from l.fn.list.items l.list.items;
  behind : (p : ℕ) → l.i ≤ p → slice_get l.list.items (p - (l.i - l.fn.from)) ≡ slice_get l.fn.list.items p;
}
