use Rattle.run_listing.proofs.Cursor.{takes_by_done, permits_by_done}
use Rattle.run_listing.proofs.laws.law_strayed.Goals as goal

pub returns-clause-takes : goal.returns-clause-takes
returns-clause-takes c = takes_by_done

pub returns-clause-permits : goal.returns-clause-permits
returns-clause-permits c = permits_by_done
