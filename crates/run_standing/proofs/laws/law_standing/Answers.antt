use Rattle.run_standing.proofs.Viewed.{as_viewed, view_stands}
use Rattle.run_standing.proofs.laws.law_standing.Goals as goal

pub returns-clause-viewed : goal.returns-clause-viewed
returns-clause-viewed c = as_viewed

pub returns-clause-stand : goal.returns-clause-stand
returns-clause-stand c = view_stands
