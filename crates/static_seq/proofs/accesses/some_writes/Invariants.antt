use Rattle.std.proofs.Common.{◌≡◌, drop}
use Rattle.static_seq.specs.Accesses.{some_writes}
use Rattle.static_seq.proofs.accesses.some_writes.Given as goal

abbrev pub invariant-loop-access : goal.invariant-loop-access
invariant-loop-access l = some_writes (drop l.access-index l.accesses) ≡ some_writes l.accesses
