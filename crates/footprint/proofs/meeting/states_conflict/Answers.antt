use Rattle.footprint.proofs.AnyLemmas.{states_some, states_other}
use Rattle.footprint.proofs.meeting.states_conflict.Goals as goal

pub returns-then-len : goal.returns-then-len
returns-then-len c = states_some c.args.a.now c.args.b.now c.some_state_conflicts.result c.some_state_conflicts.ensures.ordered
    c.some_state_conflicts.ensures.some

pub returns-else-len : goal.returns-else-len
returns-else-len c = states_other c.args.a.now c.args.b.now c.some_state_conflicts-else-len.result c.some_state_conflicts-else-len.ensures.ordered
    c.some_state_conflicts-else-len.ensures.some
