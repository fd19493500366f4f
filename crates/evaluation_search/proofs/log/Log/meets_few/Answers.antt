use Rattle.std.proofs.Common.{arith, below_more}
use Rattle.std.specs.Prelude.{slice_get}
use Rattle.evaluation_log.specs.Touched.{event_has}
use Rattle.evaluation_log.proofs.LooseLemmas.{loose_end}
use Rattle.evaluation_search.proofs.log.Log.meets_few.Goals as goal

pub loop-i-preserved : goal.loop-i-preserved
loop-i-preserved c = below_more _ _ c.loop-i.invariant (λ le. c.in_ok-meets_listed.ensures c.if-branch.false)

pub returns : goal.returns
returns c = λ no.
    loose_end c.args.map.now c.args.self.now.events.now c.args.self.now.items.now c.args.self.now.loose.now c.args.loose c.loop-i.i
    (event_has c.args.self.now.items.now (slice_get c.args.self.now.events.now c.args.at)) (omega (arith, c.loop-i-test.false)) c.loop-i.invariant
