use Rattle.std.proofs.Common.{below_more, arith}
use Rattle.evaluation_search.proofs.log.Log.large_meets_some.Goals as goal

pub loop-k-preserved : goal.loop-k-preserved
loop-k-preserved c = below_more _ _ c.loop-k.invariant (λ le. c.larges_meet.ensures c.if-larges_meet.false)

pub returns : goal.returns
returns c = λ h n le less. c.loop-k.invariant n (omega (arith, less, c.loop-k-test.false)) le
