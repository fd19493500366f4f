use Rattle.c_types.proofs.Laid.{laid-more}
use Rattle.c_types.proofs.table.Tags.declare.Goals as goal

pub invariant_of-self-2 : goal.invariant_of-self-2
invariant_of-self-2 c = rw (c.in_ok-push.ensures.ok, c.new.ensures) (laid-more c.self.inside.rows c.args.kind c.self.invariant)
