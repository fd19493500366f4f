use Rattle.std.proofs.Common.{◌≡◌, length}
use Rattle.std.specs.Ordering.{ordering_then}
use Rattle.ub_base.specs.Frames.{path_of}
use Rattle.c_names.specs.Orders.{frame_cmp}
use Rattle.c_names.proofs.order.below.Given as goal

-- what the older steps say, and where they tie what the newer ones did
abbrev pub invariant-loop-row_a : goal.invariant-loop-row_a
invariant-loop-row_a l = record {
  level : length (path_of l.frames l.a.0) ≡ length (path_of l.frames l.b.0);
  order : ordering_then (frame_cmp l.frames l.a.0 l.b.0) l.order ≡ frame_cmp l.frames l.fn.a.0 l.fn.b.0;
}

abbrev pub decreases-loop-row_a : goal.decreases-loop-row_a
decreases-loop-row_a l = l.a.0
