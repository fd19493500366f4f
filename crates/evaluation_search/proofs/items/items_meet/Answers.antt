use Rattle.std.proofs.Common.{below_more, arith}
use Rattle.evaluation_search.proofs.items.items_meet.Goals as goal

pub loop-i-preserved : goal.loop-i-preserved
loop-i-preserved c = below_more _ _ c.loop-i.invariant (λ le. c.item_meets_some.ensures c.if-item_meets_some.false)

pub returns : goal.returns
returns c = λ h p q le less more x y e m. c.loop-i.invariant p (omega (arith, less, c.loop-i-test.false)) le q more x y e m
