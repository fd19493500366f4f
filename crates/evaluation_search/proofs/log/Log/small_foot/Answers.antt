use Rattle.std.proofs.Common.{arith}
use Rattle.evaluation_log.proofs.KeptLemmas.{small_step, gathers_all}
use Rattle.evaluation_search.proofs.log.Log.small_foot.Goals as goal

pub loop-at-init : goal.loop-at-init
loop-at-init c = λ k less le j h. absurd (omega (arith, less, le))

pub loop-at-preserved : goal.loop-at-preserved
loop-at-preserved c =
    small_step c.args.self.now.events.now c.args.self.now.items.now c.segment_start-from.result c.loop-at.at _ _
    (λ j. c.in_ok-add_small.ensures j) c.loop-at.invariant

pub returns : goal.returns
returns c =
    gathers_all c.args.segments.now c.args.self.now.events.now c.args.self.now.items.now c.args.group c.segment_start-from.result
    c.segment_end-to.result c.loop-at.at c.loop-at.foot c.segment_start-from.ensures c.segment_end-to.ensures c.loop-at-test.false c.loop-at.invariant
