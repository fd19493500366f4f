use Rattle.parse_cursor.proofs.Known.{none_known}
use Rattle.parse_cursor.proofs.scope.no_typedefs.Goals as goal

pub returns-clause-known : goal.returns-clause-known
returns-clause-known c = none_known c.loop-name.typedefs.items c.loop-name.invariant.all
