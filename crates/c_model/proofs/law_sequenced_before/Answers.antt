use Rattle.c_typed.specs.Order.{chain}
use Rattle.c_model.proofs.Ranks.{before-irreflexive, before-asymmetric}
use Rattle.c_model.proofs.law_sequenced_before.Goals as goal

pub returns-clause-irreflexive : goal.returns-clause-irreflexive
returns-clause-irreflexive c = λ root taken u h. before-irreflexive root taken u h

pub returns-clause-asymmetric : goal.returns-clause-asymmetric
returns-clause-asymmetric c = λ root taken u v a b. before-asymmetric root taken u v a b

pub returns-clause-transitive : goal.returns-clause-transitive
returns-clause-transitive c = λ root taken u v w a b. chain u v w a b
