use Rattle.command.proofs.Apps.{with_rule_same}
use Rattle.person_command.proofs.person_app.batch_command.Goals as goal

pub returns-clause-app : goal.returns-clause-app
returns-clause-app c =
    with_rule_same _ _ _ _ _ c.in_ok-command-5.ensures.app
    (with_rule_same _ _ _ _ _ c.in_ok-command-4.ensures.app
    (with_rule_same _ _ _ _ _ c.in_ok-command-3.ensures.app
    (with_rule_same _ _ _ _ _ c.in_ok-command-2.ensures.app
    (with_rule_same _ _ _ _ _ c.in_ok-command.ensures.app c.new-command.ensures.app c.names_arg.ensures.rule)
    c.program_arg.ensures.rule)
    c.list_arg.ensures.rule)
    c.steps_arg.ensures.rule)
    c.tight_arg.ensures.rule
