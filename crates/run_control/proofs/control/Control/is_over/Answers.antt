use Rattle.std.proofs.Common.{◌∙◌, ap}
use Rattle.std.proofs.lemmas.Result.{on_ok_weaker, IfOk-weaker}
use Rattle.c_model.specs.Control.{ready_work}
use Rattle.run_control.specs.View.{todo_of, is_nothing}
use Rattle.run_control.proofs.control.Control.is_over.Goals as goal

pub returns-clause-now : goal.returns-clause-now
returns-clause-now c = on_ok_weaker c.is_over.result (λ f m. f m ∙ ap (λ s. ready_work (todo_of m s.now)) c.self.view_is) c.is_over.ensures.now

pub returns-clause-over : goal.returns-clause-over
returns-clause-over c = IfOk-weaker c.is_over.result _ _
    (λ over f m. f m ∙ ap (λ s. is_nothing (ready_work (todo_of m s.now))) c.self.view_is) c.is_over.ensures.over
