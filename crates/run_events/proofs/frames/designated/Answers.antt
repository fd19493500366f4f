use Rattle.std.proofs.Common.{◌∙◌, ap, sym}
use Rattle.run_state.specs.Operands.{operand_in}
use Rattle.run_events.proofs.Called.{function_leads, leads_none}
use Rattle.run_events.proofs.frames.designated.Goals as goal

pub returns-in-Function : goal.returns-in-Function
returns-in-Function c = λ h given m.
    function_leads c.args.machine.now c.in-Function.addr h m (ap (operand_in c.args.machine.now) (sym c.in-Function.is) ∙ given)

pub returns-in_default : goal.returns-in_default
returns-in_default c = λ h given m.
    leads_none c.args.machine.now c.args.designator h m c.in_default.not-Function c.in_default.not-Done given
