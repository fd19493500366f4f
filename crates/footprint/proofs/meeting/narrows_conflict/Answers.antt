use Rattle.footprint.proofs.AnyLemmas.{narrows_some, narrows_other}
use Rattle.footprint.proofs.meeting.narrows_conflict.Goals as goal

pub returns-then-len : goal.returns-then-len
returns-then-len c = narrows_some c.args.a.now c.args.b.now c.some_narrow_conflicts.result c.some_narrow_conflicts.ensures

pub returns-else-len : goal.returns-else-len
returns-else-len c = narrows_other c.args.a.now c.args.b.now c.some_narrow_conflicts-else-len.result c.some_narrow_conflicts-else-len.ensures
