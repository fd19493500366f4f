use Rattle.std.proofs.Common.{below_more, arith}
use Rattle.std.proofs.lemmas.Option.{slice_get_within}
use Rattle.evaluation_search.proofs.items.item_meets_some.Goals as goal

pub loop-q-preserved : goal.loop-q-preserved
loop-q-preserved c = below_more _ _ c.loop-q.invariant (λ le. c.items_at_conflict.ensures c.if-items_at_conflict.false)

pub returns : goal.returns
returns c = λ h q le x y e m. c.loop-q.invariant q (let w = slice_get_within c.args.items.now q y m in omega (arith, w)) le x y e m
