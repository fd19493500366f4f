use Rattle.std.proofs.Common.{below_more, arith}
use Rattle.std.proofs.lemmas.Option.{slice_get_within}
use Rattle.quiet_trees.proofs.items.some_noted.Goals as goal

pub loop-p-preserved : goal.loop-p-preserved
loop-p-preserved c = below_more _ _ c.loop-p.invariant (λ x e. c.is_noted_at.ensures.none c.if-is_noted_at.false x e)

pub returns-clause-none : goal.returns-clause-none
returns-clause-none c = λ h p x e. c.loop-p.invariant p (let w = slice_get_within c.args.items.now p x e in omega (arith, w)) x e
