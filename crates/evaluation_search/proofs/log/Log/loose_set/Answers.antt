use Rattle.std.proofs.Common.{arith, below_more}
use Rattle.evaluation_log.proofs.LooseLemmas.{set_end}
use Rattle.evaluation_search.proofs.log.Log.loose_set.Goals as goal

pub loop-i-preserved : goal.loop-i-preserved
loop-i-preserved c = below_more _ _ (λ k less le j h. c.in_ok-add_listed.ensures.more j (c.loop-i.invariant k less le j h))
    (λ le j h. c.in_ok-add_listed.ensures.one j h)

pub returns : goal.returns
returns c =
    set_end c.args.self.now.events.now c.args.self.now.items.now c.args.self.now.loose.now c.args.loose c.loop-i.i c.loop-i.foot
    (omega (arith, c.loop-i-test.false)) c.loop-i.invariant
