use Rattle.std.proofs.Common.{sym, subst}
use Rattle.order_laws.specs.Asking.{AskedOrEnds}
use Rattle.order_laws.proofs.PrintAsks.{library_asks}
use Rattle.order_laws.proofs.EveryRun.{clean_run_quiet, clean_run_speaks}
use Rattle.order_laws.proofs.law_clean_run.Goals as goal

pub returns-clause-speaks : goal.returns-clause-speaks
returns-clause-speaks c = clean_run_speaks

pub returns-clause-library : goal.returns-clause-library
returns-clause-library c = λ world input vs status output picks e small run.
    clean_run_speaks world input vs status output picks (λ g who ts ws bs. subst (λ l. AskedOrEnds world.rows (l g who ts ws) bs) (sym e)
    (library_asks world.rows g who ts ws bs)) small run

pub returns-clause-quiet : goal.returns-clause-quiet
returns-clause-quiet c = clean_run_quiet
