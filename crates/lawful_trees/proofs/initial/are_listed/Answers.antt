use Rattle.std.proofs.Common.{arith}
use Rattle.c_typed.specs.declared.tree.Typed.{Typed}
use Rattle.c_typed.specs.Lawful.{IsListed, root_of}
use Rattle.lawful_trees.proofs.Steps.{All-drop_one}
use Rattle.lawful_trees.proofs.initial.are_listed.Goals as goal

pub loop-operand-preserved : goal.loop-operand-preserved
loop-operand-preserved c = λ rest.
    let P : Typed → Type 0 = λ t. IsListed c.args.slot (root_of t) in
    c.loop-operand.invariant
    (All-drop_one P c.args.operands.now c.loop-operand.operand-index c.operand-item.result (omega arith) c.operand-item.is
    (c.is_listed.ensures c.if-not-is_listed.false) rest)
