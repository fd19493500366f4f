use Rattle.std.proofs.Common.{◌≡◌, ◌+◌, ◌-◌, ◌<◌, ◌^◌}
use Rattle.type_declarators.specs.Literals.{bytes_from}
use Rattle.type_declarators.proofs.Bytes.{prepended}
use Rattle.type_declarators.proofs.literal.literal_bytes.Given as goal

abbrev pub invariant-loop-k : goal.invariant-loop-k
invariant-loop-k l =
    l.first + l.count < 2 ^ 32 → prepended l.bytes (bytes_from l.source (l.count - l.k) (l.first + l.k)) ≡ bytes_from l.source l.count l.first
