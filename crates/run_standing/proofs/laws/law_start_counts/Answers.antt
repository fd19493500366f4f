use Rattle.run_standing.proofs.Counts.{start_counts}
use Rattle.run_standing.proofs.laws.law_start_counts.Goals as goal

pub returns : goal.returns
returns c = start_counts
