use Rattle.std.proofs.Common.{take}
use Rattle.std.specs.List.{All, Contains}
use Rattle.lawful_bodies.proofs.distinct.are_in.Given as goal

-- those seen are labels
abbrev pub invariant-loop-number : goal.invariant-loop-number
invariant-loop-number l = All (Contains l.labels) (take l.number-index l.numbers)
