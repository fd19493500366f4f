use Rattle.elaborate.proofs.Faithful.{faithful}
use Rattle.elaborate.proofs.laws.law_faithful.Goals as goal

pub returns : goal.returns
returns c = λ root f. faithful root f
