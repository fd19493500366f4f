use Rattle.ending_laws.proofs.Ahead.{bodies_end}
use Rattle.ending_laws.proofs.Recorded.{gives_ending, tells_ending}
use Rattle.ending_laws.proofs.law_recorded_at_end.Goals as goal

pub returns-clause-ends : goal.returns-clause-ends
returns-clause-ends c = bodies_end

pub returns-clause-tells : goal.returns-clause-tells
returns-clause-tells c = tells_ending

pub returns-clause-gives : goal.returns-clause-gives
returns-clause-gives c = gives_ending
