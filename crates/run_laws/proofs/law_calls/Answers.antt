use Rattle.run_laws.proofs.Calling.{is_call, is_call_code, may_call, may_call_next}
use Rattle.run_laws.proofs.law_calls.Goals as goal

pub returns-clause-code : goal.returns-clause-code
returns-clause-code c = is_call_code c.law_acts.ensures.calls c.law_named.ensures.nodes

pub returns-clause-is : goal.returns-clause-is
returns-clause-is c = is_call c.law_acts.ensures.calls c.law_named.ensures.nodes

pub returns-clause-may : goal.returns-clause-may
returns-clause-may c = may_call c.law_acts.ensures.calls c.law_named.ensures.nodes c.law_asked.ensures.code

pub returns-clause-next : goal.returns-clause-next
returns-clause-next c = may_call_next c.law_acts.ensures.calls c.law_named.ensures.nodes c.law_asked.ensures.code c.law_picks.ensures.next
