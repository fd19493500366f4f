use Rattle.std.proofs.Common.{rules}
use Rattle.c_types.specs.Types.{type_of}
use Rattle.type_limits.proofs.Rooms.{test_tells}
use Rattle.type_limits.proofs.limits.is_within.Goals as goal

pub returns : goal.returns
returns c = let e : _ = test_tells (type_of c.args.ty.now) in search (rules, e)
