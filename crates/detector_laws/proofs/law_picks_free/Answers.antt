use Rattle.detector_laws.proofs.Bodies.{ends_free}
use Rattle.detector_laws.proofs.Free.{begins_free}
use Rattle.detector_laws.proofs.Goes.{picks_come_to}
use Rattle.detector_laws.proofs.Leaves.{picks_leave_free}
use Rattle.detector_laws.proofs.law_picks_free.Goals as goal

pub returns-clause-comes : goal.returns-clause-comes
returns-clause-comes c = picks_come_to

pub returns-clause-leaves : goal.returns-clause-leaves
returns-clause-leaves c = picks_leave_free

pub returns-clause-begins : goal.returns-clause-begins
returns-clause-begins c = begins_free

pub returns-clause-ends : goal.returns-clause-ends
returns-clause-ends c = ends_free
