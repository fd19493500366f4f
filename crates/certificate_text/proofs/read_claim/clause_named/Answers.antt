-- What `from_text` finds is the clause of the text.
use Rattle.certificate_text.proofs.Clauses.{clause_of_text}
use Rattle.certificate_text.proofs.read_claim.clause_named.Goals as goal

pub returns : goal.returns
returns c = clause_of_text c.args.text.now c.from_text.result c.from_text.ensures.found c.from_text.ensures.none
