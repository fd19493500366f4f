use Rattle.std.proofs.Common.{map}
use Rattle.parse_cursor.specs.Declarations.{said}
use Rattle.parse_cursor.proofs.Cursors.{closed_view}
use Rattle.parse_cursor.proofs.cursor.Cursor.close.Goals as goal

pub returns : goal.returns
returns c = closed_view c.self.inside.tokens.now c.self.inside.at c.self.inside.scope c.truncate.new.self (map said c.self.inside.prototype.items)
    c.args.count c.args.self.now c.truncate.ensures c.self.view_is
