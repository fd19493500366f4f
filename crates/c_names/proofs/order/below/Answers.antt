use Rattle.std.proofs.Common.{◌∙◌, ap}
use Rattle.std.specs.Ordering.{ordering_then}
use Rattle.ub_base.specs.Frames.{path_of}
use Rattle.c_names.specs.Orders.{frame_cmp}
use Rattle.c_names.proofs.OrderLemmas.{turn_of, turn_length, end_of_same}
use Rattle.c_names.proofs.order.below.Goals as goal

pub loop-row_a-preserved : goal.loop-row_a-preserved
loop-row_a-preserved c = record {
  level =
      turn_length (path_of c.args.frames.now c.loop-row_a.a.0) (path_of c.args.frames.now c.loop-row_a.b.0) (path_of c.args.frames.now c.in-Some.row_a.0.0)
      (path_of c.args.frames.now c.in-Some.row_b.0.0)
      (c.in-Some.row_a.1, c.in-Some.row_a.2) (c.in-Some.row_b.1, c.in-Some.row_b.2) c.in-Some.ensures.first c.in-Some.ensures.second
      c.loop-row_a.invariant.level;
  order =
      ap (λ o. ordering_then (frame_cmp c.args.frames.now c.in-Some.row_a.0.0 c.in-Some.row_b.0.0) o)
      (c.then-order.ensures ∙ ap (λ o. ordering_then o c.loop-row_a.order) (c.then.ensures ∙ (λ i. ordering_then (c.cmp.ensures i) (c.cmp-in-Some.ensures i))))
      ∙ turn_of (path_of c.args.frames.now c.loop-row_a.a.0) (path_of c.args.frames.now c.loop-row_a.b.0) (path_of c.args.frames.now c.in-Some.row_a.0.0)
      (path_of c.args.frames.now c.in-Some.row_b.0.0)
      (c.in-Some.row_a.1, c.in-Some.row_a.2) (c.in-Some.row_b.1, c.in-Some.row_b.2) c.loop-row_a.order _ c.in-Some.ensures.first c.in-Some.ensures.second
      c.loop-row_a.invariant.level c.loop-row_a.invariant.order;
}

pub returns : goal.returns
returns c =
    end_of_same (path_of c.args.frames.now c.loop-row_a.a.0) (path_of c.args.frames.now c.loop-row_a.b.0) c.loop-row_a.order _ c.in_default.ensures.one
    c.loop-row_a.invariant.order
