use Rattle.detector_laws.proofs.Barely.{picks_stay_bare}
use Rattle.detector_laws.proofs.Clear.{goes_clear, starts_clear}
use Rattle.detector_laws.proofs.Freshly.{picks_stay_fresh}
use Rattle.detector_laws.proofs.law_clear_so_far.Goals as goal

pub returns-clause-fresh : goal.returns-clause-fresh
returns-clause-fresh c = picks_stay_fresh

pub returns-clause-bare : goal.returns-clause-bare
returns-clause-bare c = picks_stay_bare

pub returns-clause-starts : goal.returns-clause-starts
returns-clause-starts c = starts_clear

pub returns-clause-goes : goal.returns-clause-goes
returns-clause-goes c = goes_clear
