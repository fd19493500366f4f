use Rattle.std.proofs.Common.{◌≢◌, subst, rules, arith, take_all}
use Rattle.std.specs.List.{AllPairs}
use Rattle.lawful_bodies.proofs.Apart.{more}
use Rattle.lawful_bodies.proofs.distinct.are_distinct.Goals as goal

pub loop-item-preserved : goal.loop-item-preserved
loop-item-preserved g c =
    more g.K.Ord.cmp c.args.items.now c.loop-item.item-index c.item-item.result c.loop-item.seen c.insert.new.self
    (omega arith) c.item-item.is (search rules) c.in_ok-insert.ensures.updates c.loop-item.invariant

pub returns : goal.returns
returns g c =
    λ _. subst (AllPairs ◌≢◌) (take_all c.loop-item.item-index c.args.items.now (omega arith)) c.loop-item.invariant.0
