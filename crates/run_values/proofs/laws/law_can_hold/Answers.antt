use Rattle.run_values.proofs.Placed.{can_hold_all}
use Rattle.run_values.proofs.laws.law_can_hold.Goals as goal

pub returns : goal.returns
returns c = can_hold_all
