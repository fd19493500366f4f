use Rattle.std.proofs.Common.{rules, arith}
use Rattle.c_typed.specs.Lawful.{StaticIsLawful}
use Rattle.lawful_trees.proofs.Loops.{more, whole}
use Rattle.lawful_program.proofs.program.are_lawful_statics.Goals as goal

pub loop-object-preserved : goal.loop-object-preserved
loop-object-preserved c =
    more (StaticIsLawful c.args.program.now) c.args.statics.now c.loop-object.object-index c.object-item.result
    (omega arith) c.object-item.is (c.in_ok-is_lawful_static.ensures (search rules)) c.loop-object.invariant

pub returns : goal.returns
returns c = λ _. whole (StaticIsLawful c.args.program.now) c.args.statics.now c.loop-object.object-index (omega arith) c.loop-object.invariant
