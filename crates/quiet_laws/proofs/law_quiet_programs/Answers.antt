use Rattle.quiet_laws.proofs.Kept.{same_loads, quiet_kept}
use Rattle.quiet_laws.proofs.law_quiet_programs.Goals as goal

pub returns-clause-loads : goal.returns-clause-loads
returns-clause-loads c = same_loads

pub returns-clause-quiet : goal.returns-clause-quiet
returns-clause-quiet c = quiet_kept
