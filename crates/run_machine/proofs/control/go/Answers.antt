use Rattle.run_answers.proofs.Staying.{go_answers}
use Rattle.run_machine.proofs.control.go.Goals as goal

pub returns-clause-answers : goal.returns-clause-answers
returns-clause-answers c =
    go_answers c.args.how c.args.machine.now c.go.new.self.below c.go.new.self.now c.in_ok-go.ensures.below c.in_ok-go.ensures.now
