use Rattle.c_types.proofs.Laid.{settled_rows}
use Rattle.c_types.proofs.table.Tags.law_extents.Goals as goal

pub returns : goal.returns
returns c = settled_rows c.self.inside.rows c.args.self.now c.self.view_is c.self.invariant
