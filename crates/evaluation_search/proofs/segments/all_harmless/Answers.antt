use Rattle.std.proofs.Common.{below_more, arith}
use Rattle.std.proofs.lemmas.Option.{slice_get_within}
use Rattle.evaluation_search.proofs.segments.all_harmless.Goals as goal

pub loop-group-preserved : goal.loop-group-preserved
loop-group-preserved c = below_more _ _ c.loop-group.invariant (λ le s e. c.is_harmless.ensures c.if-not-is_harmless.false s e)

pub returns : goal.returns
returns c = λ h g s le e. c.loop-group.invariant g (let w = slice_get_within c.args.segments.now g s e in omega (arith, w)) le s e
