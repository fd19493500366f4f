use Rattle.run_laws.proofs.Given.{laws_of, takes_given, can_be_taken, may_take, may_take_next}
use Rattle.run_laws.proofs.law_given.Goals as goal

pub returns-clause-given : goal.returns-clause-given
returns-clause-given c =
    takes_given
    (laws_of c.law_acts.ensures.takes c.law_acts.ensures.nodes c.law_named.ensures.nodes c.law_named.ensures.known c.law_events.ensures.evaluated
    c.law_near.ensures c.law_asked.ensures.code c.law_picks.ensures.next)

pub returns-clause-can : goal.returns-clause-can
returns-clause-can c =
    can_be_taken
    (laws_of c.law_acts.ensures.takes c.law_acts.ensures.nodes c.law_named.ensures.nodes c.law_named.ensures.known c.law_events.ensures.evaluated
    c.law_near.ensures c.law_asked.ensures.code c.law_picks.ensures.next)

pub returns-clause-may : goal.returns-clause-may
returns-clause-may c =
    may_take
    (laws_of c.law_acts.ensures.takes c.law_acts.ensures.nodes c.law_named.ensures.nodes c.law_named.ensures.known c.law_events.ensures.evaluated
    c.law_near.ensures c.law_asked.ensures.code c.law_picks.ensures.next)

pub returns-clause-next : goal.returns-clause-next
returns-clause-next c =
    may_take_next
    (laws_of c.law_acts.ensures.takes c.law_acts.ensures.nodes c.law_named.ensures.nodes c.law_named.ensures.known c.law_events.ensures.evaluated
    c.law_near.ensures c.law_asked.ensures.code c.law_picks.ensures.next)
