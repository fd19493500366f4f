use Rattle.std.proofs.Common.{rules, arith}
use Rattle.c_typed.specs.Lawful.{ContentIsLawful}
use Rattle.lawful_trees.proofs.Loops.{more, whole}
use Rattle.lawful_trees.proofs.addresses.are_lawful_contents.Goals as goal

pub loop-constant-preserved : goal.loop-constant-preserved
loop-constant-preserved c =
    more (λ k. ContentIsLawful c.args.program.now k.content) c.args.constants.now c.loop-constant.constant-index c.constant-item.result
    (omega arith) c.constant-item.is (c.is_lawful_content.ensures (search rules)) c.loop-constant.invariant

pub returns : goal.returns
returns c = λ _. whole (λ k. ContentIsLawful c.args.program.now k.content) c.args.constants.now c.loop-constant.constant-index
    (omega arith) c.loop-constant.invariant
