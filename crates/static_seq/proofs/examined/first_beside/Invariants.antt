use Rattle.std.proofs.Common.{◌≡◌, drop}
use Rattle.static_seq.specs.Choices.{Lists}
use Rattle.static_seq.specs.Parted.{first_beside}
use Rattle.static_seq.proofs.examined.first_beside.Given as goal

abbrev pub invariant-loop-b : goal.invariant-loop-b
invariant-loop-b l =
    Lists l.nodes l.root →
    first_beside l.p l.function l.root l.a (drop l.b-index l.rest) ≡ first_beside l.p l.function l.root l.a l.rest
