use Rattle.std.proofs.Common.{◌∙◌, ap, suc, below_more, arith}
use Rattle.evaluation_log.specs.Kept.{items_of}
use Rattle.evaluation_log.proofs.KeptLemmas.{apart_by, apart_end}
use Rattle.evaluation_search.proofs.log.Log.some_items_conflict.Goals as goal

pub loop-group-preserved : goal.loop-group-preserved
loop-group-preserved c = below_more _ _ c.loop-group.invariant
    (λ le. apart_by c.args.map.now c.args.self.now.items.now c.items_start.result c.items_start-in-loop-group.result
    (items_of c.args.segments.now c.args.self.now.items.now c.loop-group.group)
    (items_of c.args.segments.now c.args.self.now.items.now (suc c.loop-group.group))
    c.items_start.ensures
    (c.items_start-in-loop-group.ensures ∙ ap (items_of c.args.segments.now c.args.self.now.items.now) (omega arith))
    (c.items_meet.ensures c.if-items_meet.false))

pub returns : goal.returns
returns c = λ h. apart_end c.args.map.now c.args.segments.now c.args.self.now.items.now c.args.at c.loop-group.group
    (omega (arith, c.loop-group-test.false)) c.loop-group.invariant
