use Rattle.std.proofs.Common.{sym, subst}
use Rattle.order_laws.specs.Asking.{AskedOrEnds}
use Rattle.order_laws.proofs.PrintAsks.{library_asks}
use Rattle.order_laws.proofs.ProgramLaws.{acts_keep, orders_tell}
use Rattle.order_laws.proofs.law_program_tells.Goals as goal

pub returns-clause-store : goal.returns-clause-store
returns-clause-store c = acts_keep

pub returns-clause-orders : goal.returns-clause-orders
returns-clause-orders c = orders_tell

pub returns-clause-library : goal.returns-clause-library
returns-clause-library c = λ world e. orders_tell world (λ g who ts vs bs. subst (λ l. AskedOrEnds world.rows (l g who ts vs) bs) (sym e)
    (library_asks world.rows g who ts vs bs))
