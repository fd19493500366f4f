use Rattle.std.proofs.Common.{◌∙◌, ap, Some}
use Rattle.std.proofs.lemmas.Result.{on_ok_weaker}
use Rattle.c_model.specs.Control.{gone_to}
use Rattle.run_control.specs.View.{todo_of}
use Rattle.run_control.specs.Links.{work_from}
use Rattle.run_control.proofs.control.Control.go_to.Goals as goal

pub returns-clause-now : goal.returns-clause-now
returns-clause-now c = on_ok_weaker c.go_to.result
    (λ f m. f m ∙ ap (λ s. gone_to (todo_of m s.now) (Some (todo_of m (work_from c.args.links.now c.args.target)))) c.self.view_is) c.go_to.ensures.now
