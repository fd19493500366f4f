use Rattle.std.proofs.Common.{ap}
use Rattle.parse_cursor.proofs.Cursors.{typedef_here}
use Rattle.parse_cursor.proofs.cursor.Cursor.is_typedef.Goals as goal

pub returns : goal.returns
returns c = typedef_here c.args.self.now c.self.inside.at c.names_typedef.result (ap (λ v. v.at) c.self.view_is) c.names_typedef.ensures
