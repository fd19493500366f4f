use Rattle.std.proofs.Common.{Err, ap}
use Rattle.audit_verdict.proofs.Causes.{has_no_tree}
use Rattle.audit_verdict.proofs.front.unit_of.Goals as goal

pub returns-in-Err-Syntax-clause-refused : goal.returns-in-Err-Syntax-clause-refused
returns-in-Err-Syntax-clause-refused c =
    has_no_tree c.args.tokens.now (Err c.in-Err-Syntax.field-0) c.in-Err-Syntax.token c.requires
    (ap Err c.in-Err-Syntax.field-0-is) c.in-Err-Syntax.ensures.deep
    c.in-Err-Syntax.ensures.refused
