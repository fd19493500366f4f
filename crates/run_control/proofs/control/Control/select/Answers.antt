use Rattle.std.proofs.Common.{◌∙◌, ap, sym, ◌∷◌}
use Rattle.std.proofs.lemmas.Result.{on_ok_weaker}
use Rattle.c_model.specs.Control.{Break_here, moved_in}
use Rattle.run_control.specs.View.{todo_of}
use Rattle.run_control.specs.Links.{work_at}
use Rattle.run_control.proofs.control.Control.select.Goals as goal

pub returns-in-Some-clause-now : goal.returns-in-Some-clause-now
returns-in-Some-clause-now c = on_ok_weaker c.go_in.result
    (λ f m. f m
    ∙ (ap (λ o. moved_in (work_at m c.args.links.now o) (todo_of m c.push.new.self.now)) (sym c.in-Some.is)
    ∙ (ap (λ s. moved_in (work_at m c.args.links.now c.args.target) (todo_of m s.now)) c.in_ok-push.ensures
    ∙ ap (λ s. moved_in (work_at m c.args.links.now c.args.target) (Break_here ∷ todo_of m s.now)) c.self.view_is))) c.go_in.ensures.now
