use Rattle.std.proofs.Common.{◌∙◌, ap}
use Rattle.run_state.specs.declared.machine.Machine.{Machine}
use Rattle.run_answers.proofs.Beginning.{begin_answers}
use Rattle.run_machine.proofs.Commencing.{begins_so}
use Rattle.run_machine.proofs.control.begin.Goals as goal

pub returns-clause-answers : goal.returns-clause-answers
returns-clause-answers c =
    begin_answers c.law_view.ensures.trees c.law_cursor.ensures.begins c.law_choices.ensures.begins c.args.machine.now c.grow.new.self c.show_begun.new.machine
    c.choose_at_once.new.machine c.saturating_add-machine.result c.args.number c.args.how _ _ c.in-Some.ensures.found.0 c.in-Some.ensures.found.1
    c.saturating_add-machine.ensures c.in_ok-grow.ensures.rest c.in_ok-grow.ensures.kept c.in_ok-show_begun.ensures.shown c.in_ok-choose_at_once.ensures.chosen

pub returns-clause-keeps : goal.returns-clause-keeps
returns-clause-keeps c = λ closed.
    begins_so c.args.machine.now c.grow.new.self c.show_begun.new.machine c.choose_at_once.new.machine c.saturating_add-machine.result c.args.number
    c.saturating_add-size.result c.args.how _ _ closed c.in-Some.ensures.found.0 c.in-Some.ensures.own c.in-Some.ensures.found.1
    c.saturating_add-machine.ensures
    c.in_ok-grow.ensures.rest c.saturating_add-size.ensures c.in_ok-grow.ensures.count c.grow.ensures.fewest c.in_ok-show_begun.ensures.shown
    c.in_ok-choose_at_once.ensures.chosen

pub returns-clause-memory : goal.returns-clause-memory
returns-clause-memory c =
    ap (λ (k : Machine). k.memory) c.in_ok-choose_at_once.ensures.chosen.rest ∙ ap (λ (k : Machine). k.memory) c.in_ok-show_begun.ensures.shown.rest
    ∙ ap (λ (k : Machine). k.memory) c.in_ok-grow.ensures.rest
