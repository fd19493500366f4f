use Rattle.std.proofs.Common.{arith, rules, subst, take_all, get_or}
use Rattle.std.specs.List.{All, Contains}
use Rattle.std.proofs.lemmas.List.Elements.{All-more}
use Rattle.lawful_bodies.proofs.distinct.are_in.Goals as goal

pub loop-number-preserved : goal.loop-number-preserved
loop-number-preserved c =
    All-more (Contains c.args.labels.now) c.args.numbers.now c.loop-number.number-index 0 (omega arith) c.loop-number.invariant
    (c.in_ok-known.ensures (get_or c.args.numbers.now c.loop-number.number-index 0) (search rules))

pub returns : goal.returns
returns c = λ _. subst (All (Contains c.args.labels.now)) (take_all c.loop-number.number-index c.args.numbers.now (omega arith)) c.loop-number.invariant
