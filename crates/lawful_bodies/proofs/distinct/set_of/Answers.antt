use Rattle.std.proofs.Common.{arith, refl}
use Rattle.lawful_bodies.proofs.Apart.{known_more}
use Rattle.lawful_bodies.proofs.distinct.set_of.Goals as goal

pub loop-label-preserved : goal.loop-label-preserved
loop-label-preserved c =
    known_more c.args.labels.now c.loop-label.label-index _ c.loop-label.set c.insert.new.self (omega arith) refl c.in_ok-_fresh.ensures.updates
    c.loop-label.invariant
