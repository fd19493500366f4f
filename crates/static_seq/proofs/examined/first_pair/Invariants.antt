use Rattle.std.proofs.Common.{◌≡◌, drop}
use Rattle.static_seq.specs.Choices.{Lists}
use Rattle.static_seq.specs.Parted.{first_pair}
use Rattle.static_seq.proofs.examined.first_pair.Given as goal

abbrev pub invariant-loop-i : goal.invariant-loop-i
invariant-loop-i l =
    Lists l.nodes l.root → first_pair l.p l.function l.root (drop l.i l.accesses) ≡ first_pair l.p l.function l.root l.accesses
