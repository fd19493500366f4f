use Rattle.command.proofs.Apps.{with_rule_same, with_run_rules_same}
use Rattle.person_command.proofs.person_app.run_command.Goals as goal

pub returns-clause-app : goal.returns-clause-app
returns-clause-app c =
    with_rule_same _ _ _ _ _ c.in_ok-command-2.ensures.app (with_run_rules_same _ _ _ c.in_ok-command.ensures.app c.new.ensures.app) c.args_arg.ensures.rule
