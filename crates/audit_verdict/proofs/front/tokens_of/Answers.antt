use Rattle.audit_verdict.proofs.Causes.{lex_refuses}
use Rattle.audit_verdict.proofs.front.tokens_of.Goals as goal

pub returns-in-Some-clause-refused : goal.returns-in-Some-clause-refused
returns-in-Some-clause-refused c = lex_refuses c.args.text.now c.in-Err.fault c.in-Some.refusal c.in-Some.ensures c.in-Err.ensures.fault
