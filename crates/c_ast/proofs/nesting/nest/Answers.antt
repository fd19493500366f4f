use Rattle.std.proofs.Common.{arith}
use Rattle.std.proofs.lemmas.Grind.{common_steps}
use Rattle.c_ast.proofs.Counts.{larger, last}
use Rattle.c_ast.proofs.nesting.nest.Goals as goal

pub loop-at-preserved : goal.loop-at-preserved
loop-at-preserved c =
    larger c.args.tokens.now.list c.loop-at.at c.loop-at.greatest c.max-greatest.result c.loop-at.nesting c.read.new.nesting
    c.loop-at.invariant.exact c.loop-at.invariant.within c.loop-at.invariant.small (c.in_ok-read.ensures).grows (c.in_ok-read.ensures).same
    (grind (arith, common_steps, c.max-greatest.ensures, c.total.ensures))

pub returns : goal.returns
returns c =
    last c.args.tokens.now.list c.loop-at.at c.loop-at.greatest c.loop-at.nesting c.loop-at.invariant.exact c.loop-at.invariant.within
    (omega (arith, c.loop-at-test.false, c.len-at-end.ensures.count))
