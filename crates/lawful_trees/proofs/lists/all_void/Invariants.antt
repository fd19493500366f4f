use Rattle.std.proofs.Common.{◌≡◌, drop}
use Rattle.std.specs.List.{All}
use Rattle.c_types.specs.Types.{void}
use Rattle.lawful_trees.specs.Views.{types_of}
use Rattle.lawful_trees.proofs.lists.all_void.Given as goal

-- where those that are left give no value, none does
abbrev pub invariant-loop-operand : goal.invariant-loop-operand
invariant-loop-operand l = All (λ t. t ≡ void) (types_of (drop l.operand-index l.operands)) → All (λ t. t ≡ void) (types_of l.operands)
