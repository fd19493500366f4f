use Rattle.run_laws.proofs.Beginning.{begins_open}
use Rattle.run_laws.proofs.Given.{laws_of}
use Rattle.run_laws.proofs.Staying.{open_stays}
use Rattle.run_laws.proofs.law_open.Goals as goal

pub returns-clause-begins : goal.returns-clause-begins
returns-clause-begins c = begins_open c.law_choices.ensures.begins c.law_named.ensures.known

pub returns-clause-stays : goal.returns-clause-stays
returns-clause-stays c =
    open_stays c.law_operands.ensures.rooms
    (laws_of c.law_acts.ensures.takes c.law_acts.ensures.nodes c.law_named.ensures.nodes c.law_named.ensures.known c.law_events.ensures.evaluated
    c.law_near.ensures c.law_asked.ensures.code c.law_picks.ensures.next)
    c.law_small.ensures c.law_events-2.ensures.stands
