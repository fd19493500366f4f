use Rattle.order_laws.proofs.ProgramAsks.{acts_ask, acts_count}
use Rattle.order_laws.proofs.PrintAsks.{library_asks}
use Rattle.order_laws.proofs.law_acts_ask.Goals as goal

pub returns-clause-acts : goal.returns-clause-acts
returns-clause-acts c = λ world asked. (acts_ask world asked, acts_count world asked)

pub returns-clause-library : goal.returns-clause-library
returns-clause-library c = library_asks
