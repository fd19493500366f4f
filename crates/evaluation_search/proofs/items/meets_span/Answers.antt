use Rattle.std.proofs.Common.{below_more, arith}
use Rattle.evaluation_search.proofs.items.meets_span.Goals as goal

pub loop-q-preserved : goal.loop-q-preserved
loop-q-preserved c = below_more _ _ c.loop-q.invariant (λ le. c.items_at_conflict.ensures c.if-items_at_conflict.false)

pub returns : goal.returns
returns c = λ h q le less. c.loop-q.invariant q (omega (arith, less, c.loop-q-test.false)) le
