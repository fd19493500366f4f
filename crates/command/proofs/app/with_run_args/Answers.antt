use Rattle.std.proofs.Common.{refl}
use Rattle.command.proofs.Apps.{with_rule_same}
use Rattle.command.proofs.app.with_run_args.Goals as goal

pub returns-clause-app : goal.returns-clause-app
returns-clause-app c =
    with_rule_same _ _ _ _ _ c.in_ok-command-4.ensures.app
    (with_rule_same _ _ _ _ _ c.in_ok-command-3.ensures.app
    (with_rule_same _ _ _ _ _ c.in_ok-command-2.ensures.app
    (with_rule_same _ _ _ _ _ c.in_ok-command.ensures.app refl c.file_arg.ensures.rule)
    c.input_arg.ensures.rule)
    c.steps_arg.ensures.rule)
    c.tight_arg.ensures.rule
