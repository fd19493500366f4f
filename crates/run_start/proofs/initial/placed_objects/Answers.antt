use Rattle.run_start.proofs.initial.placed_objects.Goals as goal

pub returns-clause-given : goal.returns-clause-given
returns-clause-given c = λ sound lawful.
    let made = c.in_ok-started.ensures.made sound lawful in
    (c.in_ok-started.started, c.in_ok-values.ensures, made.0, made.1, c.in_ok-started.ensures.given sound lawful)
