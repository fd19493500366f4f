use Rattle.order_laws.proofs.CleanFinding.{clean_in_every_order, clean_is_quiet, clean_is_run}
use Rattle.order_laws.proofs.law_clean_in_every_order.Goals as goal

pub returns-clause-run : goal.returns-clause-run
returns-clause-run c = clean_is_run

pub returns-clause-alike : goal.returns-clause-alike
returns-clause-alike c = clean_in_every_order

pub returns-clause-quiet : goal.returns-clause-quiet
returns-clause-quiet c = clean_is_quiet
