use Rattle.std.proofs.Common.{◌∙◌}
use Rattle.footprint.proofs.Removals.{outside_kept, fewer, without, none_before}
use Rattle.footprint.proofs.starts.remove_starts.Goals as goal

pub returns-in_default-clause-without : goal.returns-in_default-clause-without
returns-in_default-clause-without c =
    without c.args.ends.now c.loop.ends c.args.object c.args.from c.args.last c.loop.invariant.outside (λ g le to. c.in_default.ensures g le)

pub returns-then-next-last-clause-without : goal.returns-then-next-last-clause-without
returns-then-next-last-clause-without c =
    without c.args.ends.now c.loop.ends c.args.object c.args.from c.args.last c.loop.invariant.outside
    (none_before c.loop.ends c.args.object c.args.from c.args.last c.in-Some.next.from c.if-next-last.true c.in-Some.ensures.first)

pub loop-preserved : goal.loop-preserved
loop-preserved c = record {
  outside = λ y f h. outside_kept c.loop.ends _ _ c.args.object c.args.from c.args.last c.in-Some.next.from y f
      (c.remove.ensures.updates.0 (y, f)) c.in-Some.ensures.late c.if-next-last.false h (c.loop.invariant.outside y f h);
  counted = fewer _ _ _ _ c.remove.result c.in-Some.next.end (c.remove.ensures.value ∙ c.in-Some.ensures.found) c.remove.ensures.len c.loop.invariant.counted;
  ordered = c.remove.ensures.ordered;
}
