use Rattle.std.proofs.Common.{arith}
use Rattle.lawful_program.proofs.Seen.{element_there}
use Rattle.lawful_program.proofs.places.in_element.Goals as goal

pub returns-then-at-step : goal.returns-then-at-step
returns-then-at-step c =
    element_there c.args.program.now c.args.element.now c.args.count c.args.at c.size-step.result c.size-step.ensures (omega arith)
