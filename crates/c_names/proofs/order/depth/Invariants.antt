use Rattle.std.proofs.Common.{◌≡◌, ◌≤◌, ◌+◌, length}
use Rattle.ub_base.specs.Frames.{path_of}
use Rattle.c_names.proofs.order.depth.Given as goal

-- the steps so far and those that are left
abbrev pub invariant-loop-parent : goal.invariant-loop-parent
invariant-loop-parent l = record {
  fits : l.count + l.frame.0 ≤ l.fn.of.0;
  steps : l.count + length (path_of l.frames l.frame.0) ≡ length (path_of l.frames l.fn.of.0);
}

abbrev pub decreases-loop-parent : goal.decreases-loop-parent
decreases-loop-parent l = l.frame.0
