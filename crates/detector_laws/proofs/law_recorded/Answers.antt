use Rattle.detector_laws.proofs.Recorded.{begins_recorded, tells_recorded, starts_recorded, stays_recorded, ends_recorded, gathers_recorded}
use Rattle.detector_laws.proofs.law_recorded.Goals as goal

pub returns-clause-begins : goal.returns-clause-begins
returns-clause-begins c = begins_recorded

pub returns-clause-tells : goal.returns-clause-tells
returns-clause-tells c = tells_recorded

pub returns-clause-starts : goal.returns-clause-starts
returns-clause-starts c = starts_recorded

pub returns-clause-stays : goal.returns-clause-stays
returns-clause-stays c = stays_recorded

pub returns-clause-ends : goal.returns-clause-ends
returns-clause-ends c = ends_recorded

pub returns-clause-gathers : goal.returns-clause-gathers
returns-clause-gathers c = gathers_recorded
