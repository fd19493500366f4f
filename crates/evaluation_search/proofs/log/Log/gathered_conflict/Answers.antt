use Rattle.std.proofs.Common.{◌∙◌, refl, arith}
use Rattle.evaluation_log.proofs.KeptLemmas.{as_first, kept_of, gathered_more, joined_more, joined_end}
use Rattle.evaluation_log.proofs.WholeLemmas.{loses_none, loses_more, feet_lost, feet_set, spreads_all}
use Rattle.evaluation_search.proofs.SegmentLemmas.{alike_self, alike_after}
use Rattle.evaluation_search.proofs.log.Log.gathered_conflict.Goals as goal

pub loop-group-init : goal.loop-group-init
loop-group-init c = record {
  same = alike_self c.args.segments.now;
  lost = loses_none c.args.segments.now;
  left = λ g le. refl;
  gathered = λ kept g less le. absurd (omega (arith, less, le));
  none = λ kept h less g le more. absurd (omega (arith, less, le, more));
}

pub loop-group-preserved : goal.loop-group-preserved
loop-group-preserved c = record {
  same = alike_after c.args.segments.now c.loop-group.segments c.meets_next.new.segments c.loop-group.invariant.same c.meets_next.ensures.taken.same;
  lost = loses_more c.args.segments.now c.loop-group.segments c.meets_next.new.segments c.loop-group.group
      c.loop-group.invariant.lost c.meets_next.ensures.taken.gone c.meets_next.ensures.taken.others;
  left = λ g le. c.meets_next.ensures.taken.others g (λ e. absurd (omega (arith, e, le))) ∙ c.loop-group.invariant.left g (omega (arith, le));
  gathered = λ kept.
      let r = as_first c.args.map.now c.args.segments.now c.loop-group.segments c.meets_next.new.segments
      c.args.self.now.events.now c.args.self.now.events.now c.args.self.now.events.now c.args.self.now.items.now c.args.self.now.items.now
      c.args.self.now.large.now c.args.self.now.large.now c.args.at c.loop-group.group c.loop-group.all c.meets_next.new.all
      c.loop-group.invariant.same.alike (λ g. c.meets_next.ensures.taken.same.alike g ∙ c.loop-group.invariant.same.alike g) refl refl refl refl
      (c.in_ok-meets_next.ensures.joined (kept_of c.args.segments.now c.loop-group.segments c.args.self.now.events.now c.args.self.now.events.now
      c.args.self.now.items.now c.args.self.now.items.now c.args.self.now.large.now c.args.at c.loop-group.group kept c.loop-group.auto.group
      c.loop-group.invariant.same.alike refl refl (c.loop-group.invariant.left c.loop-group.group (omega arith))) c.if-branch.false) in
      gathered_more c.args.segments.now c.args.self.now.events.now c.args.self.now.items.now c.args.at c.loop-group.group
      c.loop-group.all c.meets_next.new.all r.0 r.2.grown r.1
      (c.loop-group.invariant.gathered kept);
  none = λ kept.
      let r = as_first c.args.map.now c.args.segments.now c.loop-group.segments c.meets_next.new.segments
      c.args.self.now.events.now c.args.self.now.events.now c.args.self.now.events.now c.args.self.now.items.now c.args.self.now.items.now
      c.args.self.now.large.now c.args.self.now.large.now c.args.at c.loop-group.group c.loop-group.all c.meets_next.new.all
      c.loop-group.invariant.same.alike (λ g. c.meets_next.ensures.taken.same.alike g ∙ c.loop-group.invariant.same.alike g) refl refl refl refl
      (c.in_ok-meets_next.ensures.joined (kept_of c.args.segments.now c.loop-group.segments c.args.self.now.events.now c.args.self.now.events.now
      c.args.self.now.items.now c.args.self.now.items.now c.args.self.now.large.now c.args.at c.loop-group.group kept c.loop-group.auto.group
      c.loop-group.invariant.same.alike refl refl (c.loop-group.invariant.left c.loop-group.group (omega arith))) c.if-branch.false) in
      joined_more c.args.map.now c.args.segments.now c.args.self.now.events.now c.args.self.now.items.now c.args.self.now.large.now
      c.args.at kept c.loop-group.group c.loop-group.all
      c.meets_next.new.all r.0 c.loop-group.auto.group r.1 (c.loop-group.invariant.gathered kept) r.2 (c.loop-group.invariant.none kept);
}

pub returns-clause-none : goal.returns-clause-none
returns-clause-none c = λ kept refused.
    joined_end c.args.map.now c.args.segments.now c.args.self.now.events.now c.args.self.now.items.now c.args.self.now.large.now
    c.args.at kept c.loop-group.group
    (omega (arith, c.loop-group-test.false)) (c.loop-group.invariant.none kept)

pub returns-in_err-meets_next-clause-feet : goal.returns-in_err-meets_next-clause-feet
returns-in_err-meets_next-clause-feet c = λ kept.
    feet_lost c.args.segments.now c.meets_next.new.segments c.args.self.now.events.now c.args.self.now.items.now c.args.at
    (loses_more c.args.segments.now c.loop-group.segments c.meets_next.new.segments c.loop-group.group
    c.loop-group.invariant.lost c.meets_next.ensures.taken.gone c.meets_next.ensures.taken.others)

pub returns-then-branch-clause-feet : goal.returns-then-branch-clause-feet
returns-then-branch-clause-feet c = λ kept.
    feet_lost c.args.segments.now c.meets_next.new.segments c.args.self.now.events.now c.args.self.now.items.now c.args.at
    (loses_more c.args.segments.now c.loop-group.segments c.meets_next.new.segments c.loop-group.group
    c.loop-group.invariant.lost c.meets_next.ensures.taken.gone c.meets_next.ensures.taken.others)

pub returns-in_err-all-clause-feet : goal.returns-in_err-all-clause-feet
returns-in_err-all-clause-feet c = λ kept.
    feet_lost c.args.segments.now c.loop-group.segments c.args.self.now.events.now c.args.self.now.items.now c.args.at
    c.loop-group.invariant.lost

pub returns-clause-feet : goal.returns-clause-feet
returns-clause-feet c = λ kept.
    feet_set c.args.segments.now c.loop-group.segments c.put_foot.new.segments c.args.self.now.events.now
    c.args.self.now.items.now c.args.at c.loop-group.invariant.lost c.put_foot.ensures.others
    (λ f h. spreads_all c.args.segments.now c.args.self.now.events.now c.args.self.now.items.now c.args.at c.loop-group.group c.loop-group.all
    f _ (c.put_foot.ensures.foot f h) c.in_ok-all.ensures.ok (omega (arith, c.loop-group-test.false)) (c.loop-group.invariant.gathered kept))

pub returns-clause-whole : goal.returns-clause-whole
returns-clause-whole c = λ kept no f h.
    spreads_all c.args.segments.now c.args.self.now.events.now c.args.self.now.items.now c.args.at c.loop-group.group c.loop-group.all
    f _ (c.put_foot.ensures.foot f h) c.in_ok-all.ensures.ok (omega (arith, c.loop-group-test.false)) (c.loop-group.invariant.gathered kept)
