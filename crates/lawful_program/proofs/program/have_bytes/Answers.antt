use Rattle.std.proofs.Common.{rules, arith}
use Rattle.c_typed.specs.Lawful.{AreBytes, HasBytes}
use Rattle.lawful_trees.proofs.Loops.{more, whole}
use Rattle.lawful_program.proofs.program.have_bytes.Goals as goal

pub loop-literal-preserved : goal.loop-literal-preserved
loop-literal-preserved c = record {
  some =
      more HasBytes c.args.literals.now c.loop-literal.literal-index c.literal-item.result (omega arith) c.literal-item.is
      (c.has_bytes.ensures.some (search rules)) c.loop-literal.invariant.some;
  bytes =
      more AreBytes c.args.literals.now c.loop-literal.literal-index c.literal-item.result (omega arith) c.literal-item.is
      c.has_bytes.ensures.bytes c.loop-literal.invariant.bytes;
}

pub returns-clause-some : goal.returns-clause-some
returns-clause-some c = λ _. whole HasBytes c.args.literals.now c.loop-literal.literal-index (omega arith) c.loop-literal.invariant.some

pub returns-clause-bytes : goal.returns-clause-bytes
returns-clause-bytes c = λ _. whole AreBytes c.args.literals.now c.loop-literal.literal-index (omega arith) c.loop-literal.invariant.bytes
