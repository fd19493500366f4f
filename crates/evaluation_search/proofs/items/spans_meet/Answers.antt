use Rattle.std.proofs.Common.{below_more, arith}
use Rattle.evaluation_search.proofs.items.spans_meet.Goals as goal

pub loop-p-preserved : goal.loop-p-preserved
loop-p-preserved c = below_more _ _ c.loop-p.invariant (λ le. c.meets_span.ensures c.if-meets_span.false)

pub returns : goal.returns
returns c = λ h p le less. c.loop-p.invariant p (omega (arith, less, c.loop-p-test.false)) le
