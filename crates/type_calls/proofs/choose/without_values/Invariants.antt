use Rattle.std.proofs.Common.{◌≡◌, map, length}
use Rattle.std.specs.Vec.Iter.{into_iter_items, into_iter_len}
use Rattle.type_operands.specs.Terms.{expression_of}
use Rattle.type_calls.specs.Choices.{without_values}
use Rattle.type_operands.specs.Layouts.{layouts}
use Rattle.type_calls.proofs.Lists.{joined}
use Rattle.type_calls.proofs.choose.without_values.Given as goal

-- the trees so far and the operands that are left make those of all
abbrev pub invariant-loop-operand : goal.invariant-loop-operand
invariant-loop-operand l =
    (joined l.children (without_values (layouts l.tags) (map expression_of (into_iter_items l.operand-iterator))) ≡ without_values (layouts l.tags)
    (map expression_of (into_iter_items l.initial.operand-iterator)))
    × (into_iter_len l.operand-iterator ≡ length (into_iter_items l.operand-iterator))
