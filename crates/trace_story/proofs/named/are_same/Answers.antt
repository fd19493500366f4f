use Rattle.std.proofs.Common.{arith}
use Rattle.trace_story.proofs.Ways.{same_lists}
use Rattle.trace_story.proofs.named.are_same.Goals as goal

pub returns : goal.returns
returns c = λ _. same_lists c.args.frames.now c.args.others.now (omega arith) (λ k l. c.loop-i.invariant k (omega (arith, l)))
