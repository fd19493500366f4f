use Rattle.type_limits.proofs.Rooms.{limits_tell}
use Rattle.type_limits.proofs.limits.law_limits.Goals as goal

pub returns : goal.returns
returns c = record { tells = limits_tell }
