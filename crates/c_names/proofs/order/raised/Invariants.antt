use Rattle.std.proofs.Common.{◌≡◌, drop}
use Rattle.ub_base.specs.Frames.{path_of}
use Rattle.c_names.proofs.order.raised.Given as goal

-- what is left to drop
abbrev pub invariant-loop-left : goal.invariant-loop-left
invariant-loop-left l = drop l.left (path_of l.frames l.frame.0) ≡ drop l.fn.steps (path_of l.frames l.fn.of.0)

abbrev pub decreases-loop-left : goal.decreases-loop-left
decreases-loop-left l = l.left
