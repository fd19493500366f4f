use Rattle.command.proofs.Apps.{with_rule_same}
use Rattle.person_command.proofs.person_app.help_command.Goals as goal

pub returns-clause-app : goal.returns-clause-app
returns-clause-app c = with_rule_same _ _ _ _ _ c.in_ok-command.ensures.app c.new-command.ensures.app c.topic_arg.ensures.rule
