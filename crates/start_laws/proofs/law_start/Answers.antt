use Rattle.start_laws.proofs.Starts.{starts_going, starts_over}
use Rattle.start_laws.proofs.law_start.Goals as goal

pub returns-clause-goes : goal.returns-clause-goes
returns-clause-goes c =
    starts_going c.law_standing.ensures.viewed c.law_standing.ensures.stand c.law_code.ensures c.law_scoped.ensures.scoped c.law_scoped.ensures.main
    c.law_ordered.ensures.starts c.law_reached.ensures.starts c.law_within.ensures.starts

pub returns-clause-over : goal.returns-clause-over
returns-clause-over c = starts_over c.law_standing.ensures.stand
