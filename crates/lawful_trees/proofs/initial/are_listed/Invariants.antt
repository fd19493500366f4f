use Rattle.std.proofs.Common.{drop}
use Rattle.std.specs.List.{All}
use Rattle.c_typed.specs.Lawful.{IsListed, root_of}
use Rattle.lawful_trees.proofs.initial.are_listed.Given as goal

-- where those that are left are stored in parts of the object, all are
abbrev pub invariant-loop-operand : goal.invariant-loop-operand
invariant-loop-operand l = All (λ t. IsListed l.slot (root_of t)) (drop l.operand-index l.operands) → All (λ t. IsListed l.slot (root_of t)) l.operands
