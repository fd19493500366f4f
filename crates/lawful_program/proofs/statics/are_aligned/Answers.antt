use Rattle.std.proofs.Common.{rules, arith}
use Rattle.c_types.specs.Types.{type_of}
use Rattle.c_types.specs.Leaves.{scalars}
use Rattle.c_typed.specs.Lawful.{ContentSuits}
use Rattle.lawful_trees.proofs.Loops.{more, whole}
use Rattle.lawful_program.proofs.statics.are_aligned.Goals as goal

pub loop-constant-preserved : goal.loop-constant-preserved
loop-constant-preserved c =
    more (λ k. ContentSuits c.args.program.now (scalars c.args.program.now.tags (type_of c.args.ty.now)) k.at k.content) c.args.constants.now
    c.loop-constant.constant-index c.constant-item.result
    (omega arith) c.constant-item.is (c.is_aligned.ensures (search rules)) c.loop-constant.invariant

pub returns : goal.returns
returns c = λ _. whole (λ k. ContentSuits c.args.program.now (scalars c.args.program.now.tags (type_of c.args.ty.now)) k.at k.content) c.args.constants.now
    c.loop-constant.constant-index (omega arith) c.loop-constant.invariant
