use Rattle.std.proofs.Common.{◌∙◌, ap}
use Rattle.std.proofs.lemmas.Result.{on_ok_weaker}
use Rattle.run_control.specs.View.{todo_of}
use Rattle.run_control.specs.Moves.{moved}
use Rattle.run_control.proofs.control.Control.go.Goals as goal

pub returns-clause-now : goal.returns-clause-now
returns-clause-now c =
    on_ok_weaker c.go.result (λ f m. f m ∙ ap (λ s. moved c.args.how (todo_of m s.now)) c.self.view_is) c.go.ensures.now
