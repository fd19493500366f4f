use Rattle.std.proofs.Common.{below_more, arith}
use Rattle.std.proofs.lemmas.Option.{slice_get_within}
use Rattle.evaluation_log.proofs.log.add_each.Goals as goal

pub loop-p-init : goal.loop-p-init
loop-p-init c = record { more = λ j h. h; all = λ p less. absurd (omega (arith, less)) }

pub loop-p-preserved : goal.loop-p-preserved
loop-p-preserved c = record {
  more = λ j h. c.in_ok-add_one.ensures.more j (c.loop-p.invariant.more j h);
  all = below_more _ _ (λ p less x j e h. c.in_ok-add_one.ensures.more j (c.loop-p.invariant.all p less x j e h))
      (λ x j e h. c.in_ok-add_one.ensures.one x j e h);
}

pub returns-clause-all : goal.returns-clause-all
returns-clause-all c = λ p x j e h. c.loop-p.invariant.all p (let w = slice_get_within c.args.items.now p x e in omega (arith, w)) x j e h
