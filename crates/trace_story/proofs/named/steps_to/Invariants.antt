use Rattle.std.proofs.Common.{◌≡◌, ◌++◌}
use Rattle.ub_base.specs.Frames.{path_of}
use Rattle.trace_story.proofs.named.steps_to.Given as goal

-- the steps so far and those that are left make the whole path
abbrev pub invariant-loop-parent : goal.invariant-loop-parent
invariant-loop-parent l = l.steps.items ++ path_of l.frames l.frame.0 ≡ path_of l.frames l.fn.of.0

abbrev pub decreases-loop-parent : goal.decreases-loop-parent
decreases-loop-parent l = l.frame.0
