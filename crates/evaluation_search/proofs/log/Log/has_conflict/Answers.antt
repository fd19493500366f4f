use Rattle.evaluation_log.proofs.KeptLemmas.{few_none}
use Rattle.evaluation_log.proofs.WholeLemmas.{loses_none, loses_more, feet_lost, not_none}
use Rattle.evaluation_search.proofs.log.Log.has_conflict.Goals as goal

pub returns-then-are_few-clause-none : goal.returns-then-are_few-clause-none
returns-then-are_few-clause-none c = λ kept h.
    few_none c.args.map.now c.args.segments.now c.args.self.now.events.now c.args.self.now.items.now
    c.args.self.now.large.now c.args.at kept (λ k e le there. c.are_few.ensures c.if-are_few.true k e le there)
    (c.some_items_conflict-meets.ensures h)

pub returns-then-are_few-clause-feet : goal.returns-then-are_few-clause-feet
returns-then-are_few-clause-feet c = λ kept.
    let t = c.take_foot.ensures.taken in
    feet_lost c.args.segments.now c.take_foot.new.segments c.args.self.now.events.now c.args.self.now.items.now c.args.at
    (loses_more c.args.segments.now c.args.segments.now c.take_foot.new.segments c.args.at
    (loses_none c.args.segments.now) t.gone t.others)

pub returns-then-are_few-clause-whole : goal.returns-then-are_few-clause-whole
returns-then-are_few-clause-whole c = λ kept no f h. not_none _ f _ c.take_foot.ensures.taken.gone h
