use Rattle.c_model.proofs.LaterPicks.{reached_next, before_stays, keeps_ready, not_before, given_swap}
use Rattle.c_model.proofs.law_later_choices.Goals as goal

pub returns-clause-reached : goal.returns-clause-reached
returns-clause-reached c = λ world f e u p w n r. reached_next world f e u p w n r

pub returns-clause-before : goal.returns-clause-before
returns-clause-before c = λ world f e u p q w n rp rq h. before_stays world f e u p q w n rp rq h

pub returns-clause-either : goal.returns-clause-either
returns-clause-either c = λ world f e u q w nu nq ne. (keeps_ready world f e u q w nu nq ne, not_before world f e u q nu nq)

pub returns-clause-order : goal.returns-clause-order
returns-clause-order c = λ e u q v w ne. given_swap e u q v w ne
