-- The segments from this one on are looked at, and are of nodes behind this node.
use Rattle.std.specs.Prelude.{◌≡◌, ◌≤◌, ◌<◌, ℕ, Some, slice_get}
use Rattle.evaluation_log.specs.declared.log.Segment.{Segment}
use Rattle.run_evaluations.proofs.open.Evaluations.first_above.Given as goal

abbrev pub invariant-loop-i : goal.invariant-loop-i
invariant-loop-i l = record {
  at : l.at ≡ l.i;
  behind : (k : ℕ) (s : Segment) → l.at ≤ k → slice_get l.self.segments.items k ≡ Some s → l.node < s.node;
}
