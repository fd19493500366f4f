use Rattle.std.proofs.Common.{[]}
use Rattle.run_evaluations.proofs.FrameLemmas.{follow_none}
use Rattle.run_evaluations.proofs.open.Evaluations.new.Goals as goal

pub returns-clause-follows : goal.returns-clause-follows
returns-clause-follows c =
    c.in_ok-enter.ensures.follows []
    (follow_none _ c.new-4.ensures.items c.new-3.ensures.items c.new-2.ensures.items c.new-6.ensures.items c.new-5.ensures.items c.new.ensures.items)
