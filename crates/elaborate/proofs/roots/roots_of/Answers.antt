use Rattle.std.proofs.Common.{flat_map, arith}
use Rattle.elaborate.specs.Expressions.{function_trees}
use Rattle.elaborate.proofs.Grown.{all_listed}
use Rattle.elaborate.proofs.roots.roots_of.Goals as goal

pub returns : goal.returns
returns c =
    let end = c.loop-function-test.false in
    all_listed c.loop-function.roots.items c.as_slice-function-items.result.now c.loop-function.function-index
    (flat_map function_trees c.args.p.now.functions) (omega (arith, end)) c.loop-function.invariant
