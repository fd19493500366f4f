use Rattle.elaborate.specs.Roots.{trees_at}
use Rattle.footprint_run.proofs.Stand.{seen_after}
use Rattle.footprint_run.proofs.watcher.WatcherWatch.operands_done.Goals as goal

-- where the call of the detector gives an error, nothing is noted
pub invariant_of-self : goal.invariant_of-self
invariant_of-self c = record { stopped = c.args.self.now.stopped; apart = c.args.self.now.apart }

pub invariant_of-self-2 : goal.invariant_of-self-2
invariant_of-self-2 c =
    let w = c.args.self.now in
    let after = seen_after (trees_at w.roots.now) w.seen c.note-go.new.last c.note-go.result _ w.calls c.operands_done-2.result
    (c.note-go.ensures (trees_at w.roots.now) c.in_ok-seen.ensures.apart) c.operands_done-2.ensures w.apart in
    record { stopped = after.0; apart = after.1 }
