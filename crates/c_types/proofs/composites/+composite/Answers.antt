use Rattle.c_types.proofs.Joined.{joined_more, joined_all}
use Rattle.c_types.proofs.composites.+composite.Goals as goal

pub composite_params-loop-i-preserved : goal.composite_params-loop-i-preserved
composite_params-loop-i-preserved t c =
    joined_more c.args.a.now c.args.b.now c.loop-i.params c.push.new.self c.loop-i.i c.index-a-i.result c.in_ok-composite_param.field-0 _
    c.loop-i-test.true c.index-a-i.is c.in_ok-composite_param.ensures c.in_ok-push.ensures.ok c.loop-i.invariant

pub composite_params-returns : goal.composite_params-returns
composite_params-returns t c =
    joined_all c.args.a.now c.args.b.now c.loop-i.params c.loop-i.i c.loop-i-test.false c.loop-i.invariant
