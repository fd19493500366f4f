use Rattle.c_model.proofs.Closed.{before_due}
use Rattle.c_model.proofs.Listed.{listed_once, respected, next_listed, none_left}
use Rattle.c_model.proofs.order.law_canonical_order.Goals as goal

pub returns-clause-once : goal.returns-clause-once
returns-clause-once c = λ root taken us vs v listed. listed_once root taken us vs v listed

pub returns-clause-respects : goal.returns-clause-respects
returns-clause-respects c = λ root taken us vs v listed u h. respected root taken us vs v listed u (before_due root taken u v h).0 h

pub returns-clause-along : goal.returns-clause-along
returns-clause-along c = λ root taken us vs v listed. next_listed root taken us vs v listed

pub returns-clause-ends : goal.returns-clause-ends
returns-clause-ends c = λ root taken done f. none_left root taken done f
