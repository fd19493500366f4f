use Rattle.std.proofs.Common.{◌≡◌, map, length}
use Rattle.std.specs.Vec.Iter.{into_iter_items, into_iter_len}
use Rattle.c_types.specs.Types.{params_of, qualified_of}
use Rattle.type_operands.specs.Terms.{term_of, expression_of}
use Rattle.type_calls.specs.Calls.{arguments, operands}
use Rattle.type_operands.specs.Layouts.{layouts}
use Rattle.type_calls.proofs.Lists.{joined}
use Rattle.type_calls.proofs.choose.with_arguments.Given as goal

-- the trees so far, and the arguments that are left for the parameters that are left, make those of all
abbrev pub invariant-loop-operand : goal.invariant-loop-operand
invariant-loop-operand l =
    (joined l.children (arguments (layouts l.tags) l.variadic (params_of (map qualified_of l.left)) (map expression_of (into_iter_items l.operand-iterator)))
    ≡ operands (layouts l.tags) (term_of l.fn.designator) l.variadic (params_of (map qualified_of l.params))
    (map expression_of (into_iter_items l.initial.operand-iterator)))
    × (into_iter_len l.operand-iterator ≡ length (into_iter_items l.operand-iterator))
