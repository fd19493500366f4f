use Rattle.command.proofs.Apps.{with_subcommand_same}
use Rattle.person_command.proofs.person_app.person_command.Goals as goal

pub returns-clause-app : goal.returns-clause-app
returns-clause-app c =
    with_subcommand_same _ _ _ _ _ c.in_ok-command-8.ensures.app
    (with_subcommand_same _ _ _ _ _ c.in_ok-command-7.ensures.app
    (with_subcommand_same _ _ _ _ _ c.in_ok-command-6.ensures.app
    (with_subcommand_same _ _ _ _ _ c.in_ok-command-5.ensures.app
    (with_subcommand_same _ _ _ _ _ c.in_ok-command-4.ensures.app
    (with_subcommand_same _ _ _ _ _ c.in_ok-command-3.ensures.app
    (with_subcommand_same _ _ _ _ _ c.in_ok-command-2.ensures.app
    (with_subcommand_same _ _ _ _ _ c.in_ok-command.ensures.app c.cub_without_commands-command.ensures.app c.in_ok-explain_command.ensures.app)
    c.in_ok-batch_command.ensures.app)
    c.in_ok-help_command.ensures.app)
    c.version_command.ensures.app)
    c.in_ok-run_command.ensures.app)
    c.in_ok-static_command.ensures.app)
    c.in_ok-run_command-2.ensures.app)
    c.in_ok-story_command.ensures.app
