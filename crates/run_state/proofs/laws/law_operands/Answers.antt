use Rattle.run_state.proofs.Operands.{quiet_gives, room_gives}
use Rattle.run_state.proofs.laws.law_operands.Goals as goal

pub returns-clause-known : goal.returns-clause-known
returns-clause-known c = quiet_gives

pub returns-clause-rooms : goal.returns-clause-rooms
returns-clause-rooms c = room_gives
