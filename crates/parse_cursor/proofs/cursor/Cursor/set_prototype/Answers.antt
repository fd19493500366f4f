use Rattle.std.proofs.Common.{ap, map}
use Rattle.parse_cursor.specs.Declarations.{said, with_prototype}
use Rattle.parse_cursor.proofs.cursor.Cursor.set_prototype.Goals as goal

pub returns : goal.returns
returns c = ap (with_prototype (map said c.args.names.items)) c.self.view_is
