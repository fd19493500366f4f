use Rattle.run_state.proofs.Rooms.{pointer_there}
use Rattle.run_state.proofs.machine.Machine.value.Goals as goal

pub returns-in_default : goal.returns-in_default
returns-in_default c = λ h is.
    let m = c.args.self.now in
    pointer_there m.memory c.value.result c.pointer.result c.value.ensures m c.args.operand h c.in_default.not-Integer c.in_default.not-Function
    c.in_default.not-Done is (c.pointer.ensures h is m.memory)
