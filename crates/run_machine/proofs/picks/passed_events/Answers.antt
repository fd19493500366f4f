use Rattle.std.proofs.Common.{ap, ◌∙◌}
use Rattle.run_listing.specs.Along.{part_of}
use Rattle.run_machine.proofs.Picked.{passed_as}
use Rattle.run_machine.proofs.picks.passed_events.Goals as goal

pub returns : goal.returns
returns c =
    passed_as c.args.machine.now c.args.stage c.in_ok-begun.begun.now c.part.result.now c.passed.result c.in_ok-begun.ensures
    (c.part.ensures ∙ ap (λ es. part_of es c.args.stage.first c.args.stage.cursor) c.deref.ensures.value) c.passed.ensures
