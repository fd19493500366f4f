use Rattle.std.proofs.Common.{◌≡◌, ◌++◌}
use Rattle.ub_base.specs.Frames.{path_of}
use Rattle.c_names.proofs.path.path_to.Given as goal

-- what is written and what is left make the whole path
abbrev pub invariant-loop-parent : goal.invariant-loop-parent
invariant-loop-parent l = l.path.items ++ path_of l.frames l.frame.0 ≡ path_of l.frames l.fn.of.0

abbrev pub decreases-loop-parent : goal.decreases-loop-parent
decreases-loop-parent l = l.frame.0
