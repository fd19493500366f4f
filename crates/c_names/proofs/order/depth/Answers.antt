use Rattle.std.proofs.Common.{◌∙◌, sym, arith}
use Rattle.c_names.proofs.TextLemmas.{path_of-row_of, path_of-no_row}
use Rattle.c_names.proofs.OrderLemmas.{depth_step, depth_end}
use Rattle.c_names.proofs.order.depth.Goals as goal

pub loop-parent-preserved : goal.loop-parent-preserved
loop-parent-preserved c = record {
  fits = omega (arith, c.in-Some.ensures.earlier);
  steps = depth_step _ _ _ _ _ (path_of-row_of c.args.frames.now c.row_at.ensures.rows c.loop-parent.frame.0 _ (sym c.row_at.ensures.row ∙ c.in-Some.is))
      c.loop-parent.invariant.steps;
}

pub returns : goal.returns
returns c = depth_end _ _ _ (path_of-no_row c.args.frames.now c.loop-parent.frame.0 (sym c.row_at.ensures.row ∙ c.in_default.is)) c.loop-parent.invariant.steps
