use Rattle.evaluation_log.proofs.KeptLemmas.{harmless_none}
use Rattle.evaluation_log.proofs.WholeLemmas.{loses_none, loses_more, feet_lost, not_none}
use Rattle.run_evaluations.proofs.open.Evaluations.has_conflict.Goals as goal

pub returns-then-all_harmless-clause-none : goal.returns-then-all_harmless-clause-none
returns-then-all_harmless-clause-none c = λ kept h.
    harmless_none c.args.map.now c.args.self.now.segments.items c.args.self.now.events.items c.args.self.now.items.items
    c.args.self.now.large.items c.args.at kept (λ g s le e. c.all_harmless.ensures c.if-all_harmless.true g s le e)

pub returns-then-all_harmless-clause-feet : goal.returns-then-all_harmless-clause-feet
returns-then-all_harmless-clause-feet c = λ kept.
    let t = c.take_foot.ensures.taken in
    feet_lost c.args.self.now.segments.items c.take_foot.new.self.segments.items c.args.self.now.events.items c.args.self.now.items.items c.args.at
    (loses_more c.args.self.now.segments.items c.args.self.now.segments.items c.take_foot.new.self.segments.items c.args.at
    (loses_none c.args.self.now.segments.items) t.gone t.others)

pub returns-then-all_harmless-clause-whole : goal.returns-then-all_harmless-clause-whole
returns-then-all_harmless-clause-whole c = λ kept no f h. not_none _ f _ c.take_foot.ensures.taken.gone h
