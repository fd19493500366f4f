use Rattle.footprint.specs.Holds.{holds}
use Rattle.std.proofs.Common.{suc}
use Rattle.evaluation_log.specs.Kept.{large_of}
use Rattle.evaluation_log.proofs.KeptLemmas.{no_large_by}
use Rattle.evaluation_search.proofs.log.Log.large_conflict.Goals as goal

pub returns-else-some_large_meets-2-clause-first : goal.returns-else-some_large_meets-2-clause-first
returns-else-some_large_meets-2-clause-first c = λ refused.
    no_large_by c.args.map.now c.args.self.now.events.now c.args.self.now.large.now c.large_start-from.result c.large_start-to.result
    (large_of c.args.segments.now c.args.self.now.large.now c.args.at)
    (large_of c.args.segments.now c.args.self.now.large.now c.args.group) (holds c.args.foot.now) c.large_start-from.ensures
    c.large_start-to.ensures (c.some_large_meets.ensures c.if-some_large_meets.false)

pub returns-else-some_large_meets-2-clause-second : goal.returns-else-some_large_meets-2-clause-second
returns-else-some_large_meets-2-clause-second c = λ refused.
    no_large_by c.args.map.now c.args.self.now.events.now c.args.self.now.large.now c.large_start-to.result c.large_end-end.result
    (large_of c.args.segments.now c.args.self.now.large.now c.args.group)
    (large_of c.args.segments.now c.args.self.now.large.now (suc c.args.group)) (holds c.args.all.now) c.large_start-to.ensures
    c.large_end-end.ensures (c.some_large_meets-else-some_large_meets.ensures c.if-some_large_meets-2.false)
