use Rattle.parse_cursor.proofs.Cursors.{typedef_after}
use Rattle.parse_cursor.proofs.cursor.Cursor.is_typedef_after.Goals as goal

pub returns : goal.returns
returns c = typedef_after c.args.self.now c.after.result c.names_typedef.result c.after.ensures c.names_typedef.ensures
