use Rattle.footprint.proofs.LeastLemmas.{part_turn, shared_turn, left_turn}
use Rattle.footprint.proofs.shared.least_of.Goals as goal

pub loop-key-preserved : goal.loop-key-preserved
loop-key-preserved c =
    let rows = c.args.frames.now in
    let few = c.args.few.now.ends.entries in
    let many = c.args.many.now.ends.entries in
    let rest = c.loop-key.key-iterator in
    let more = c.next.new.self in
    let before = c.loop-key.invariant in
    record {
      shared = shared_turn rows few many rest more (c.in-Some.key.now, c.in-Some.end.now) c.in-Some.ensures.steps before.part c.loop-key.best
          c.with_range-best.result before.shared c.with_range-best.ensures.from;
      left = left_turn rows few many rest more (c.in-Some.key.now, c.in-Some.end.now) c.in-Some.ensures.steps before.part c.loop-key.best
          c.with_range-best.result before.left c.with_range-best.ensures.kept c.with_range-best.ensures.more;
      part = part_turn rows few many rest more (c.in-Some.key.now, c.in-Some.end.now) c.in-Some.ensures.steps before.part;
    }
