use Rattle.run_laws.proofs.LibraryCalling.{is_library_call, may_call_library_next}
use Rattle.run_laws.proofs.law_library_calls.Goals as goal

pub returns-clause-is : goal.returns-clause-is
returns-clause-is c = is_library_call c.law_acts.ensures.calls c.law_named.ensures.nodes

pub returns-clause-next : goal.returns-clause-next
returns-clause-next c =
    may_call_library_next c.law_acts.ensures.calls c.law_named.ensures.nodes c.law_asked.ensures.code c.law_picks.ensures.next c.law_named.ensures.known
    c.law_events.ensures.evaluated
