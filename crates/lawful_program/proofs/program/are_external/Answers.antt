use Rattle.std.proofs.Common.{rules, arith}
use Rattle.c_typed.specs.Lawful.{IsExternal}
use Rattle.lawful_trees.proofs.Loops.{more, whole}
use Rattle.lawful_program.proofs.program.are_external.Goals as goal

pub loop-function-preserved : goal.loop-function-preserved
loop-function-preserved c =
    more (IsExternal) c.args.functions.now c.loop-function.function-index c.function-item.result
    (omega arith) c.function-item.is (c.is_external.ensures (search rules)) c.loop-function.invariant

pub returns : goal.returns
returns c = λ _. whole (IsExternal) c.args.functions.now c.loop-function.function-index (omega arith) c.loop-function.invariant
