use Rattle.std.proofs.Common.{◌≡◌, map, drop}
use Rattle.static_places.specs.Private.{takes, some_takes}
use Rattle.static_places.proofs.privacy.+takes.Given as goal

-- the operands that are left take the address where the tree does
abbrev pub invariant-takes-loop-operand : goal.invariant-takes-loop-operand
invariant-takes-loop-operand l =
    some_takes l.first (map (takes l.slot) (drop l.operand-index l.operand-items)) ≡ takes l.slot l.tree l.place
