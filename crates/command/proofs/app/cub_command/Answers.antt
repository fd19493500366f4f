use Rattle.command.proofs.Apps.{with_subcommand_same}
use Rattle.command.proofs.app.cub_command.Goals as goal

pub returns-clause-app : goal.returns-clause-app
returns-clause-app c =
    with_subcommand_same _ _ _ _ _ c.in_ok-command-3.ensures.app
    (with_subcommand_same _ _ _ _ _ c.in_ok-command-2.ensures.app
    (with_subcommand_same _ _ _ _ _ c.in_ok-command.ensures.app c.cub_without_commands-command.ensures.app c.in_ok-audit_command.ensures.app)
    c.in_ok-check_command.ensures.app)
    c.in_ok-self_command.ensures.app
