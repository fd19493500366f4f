-- Where a control step is the canonical pick, the machine can take it: a frame whose body is entered has the arguments of its function.
use Rattle.control_laws.specs.Asked.{ArgumentsAreAsked}
use Rattle.control_laws.specs.Control.{ControlGoesOn}
use Rattle.canonical_laws.specs.Comes.{ControlMay}

pub control_may : ControlGoesOn → ArgumentsAreAsked → ControlMay
control_may goes asks world p numbers m st n a apart is =
    goes world p numbers m st n a.going (record { enters = λ closed. asks world p st a.arguments a.placed apart.apart }) is
