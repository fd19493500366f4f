use Rattle.std.proofs.Common.{◌∙◌, ◌-◌, ap}
use Rattle.std.specs.declared.cmp.Ordering.TheVariants.{Less, Greater}
use Rattle.std.specs.Ordering.{ordering_then}
use Rattle.ub_base.specs.Frames.{path_of}
use Rattle.c_names.proofs.OrderLemmas.{longer_from, shorter_from, less_of}
use Rattle.c_names.proofs.order.cmp_frames.Goals as goal

pub returns-then-depth_a-depth_b : goal.returns-then-depth_a-depth_b
returns-then-depth_a-depth_b c =
    c.then.ensures
    ∙ longer_from (path_of c.args.frames.now c.args.a.0) (path_of c.args.frames.now c.args.b.0) (path_of c.args.frames.now c.raised-front.result.0) _
    c.below.result c.below.ensures c.raised-front.ensures
    (λ i. c.depth-depth_b.ensures i - c.depth-depth_a.ensures i) (less_of _ _ _ _ c.depth-depth_a.ensures c.depth-depth_b.ensures c.if-depth_a-depth_b.true)

pub returns-then-depth_b-depth_a : goal.returns-then-depth_b-depth_a
returns-then-depth_b-depth_a c =
    c.then-then-depth_b-depth_a.ensures
    ∙ shorter_from (path_of c.args.frames.now c.args.a.0) (path_of c.args.frames.now c.args.b.0)
    (path_of c.args.frames.now c.raised-front-then-depth_b-depth_a.result.0) _ c.below-then-depth_b-depth_a.result c.below-then-depth_b-depth_a.ensures
    c.raised-front-then-depth_b-depth_a.ensures
    (λ i. c.depth-depth_a.ensures i - c.depth-depth_b.ensures i) (less_of _ _ _ _ c.depth-depth_b.ensures c.depth-depth_a.ensures c.if-depth_b-depth_a.true)
