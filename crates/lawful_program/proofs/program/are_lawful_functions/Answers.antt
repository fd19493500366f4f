use Rattle.std.proofs.Common.{rules, arith}
use Rattle.c_typed.specs.Lawful.{FunctionIsLawful}
use Rattle.lawful_trees.proofs.Loops.{more, whole}
use Rattle.lawful_program.proofs.program.are_lawful_functions.Goals as goal

pub loop-function-preserved : goal.loop-function-preserved
loop-function-preserved c =
    more (FunctionIsLawful c.args.program.now) c.args.functions.now c.loop-function.function-index c.function-item.result
    (omega arith) c.function-item.is (c.in_ok-is_lawful_function.ensures (search rules)) c.loop-function.invariant

pub returns : goal.returns
returns c = λ _. whole (FunctionIsLawful c.args.program.now) c.args.functions.now c.loop-function.function-index (omega arith) c.loop-function.invariant
