use Rattle.std.proofs.Common.{◌≡◌, true, subst, arith}
use Rattle.std.specs.Prelude.{ℕ, IfNone, slice_get}
use Rattle.footprint.specs.Holds.{holds}
use Rattle.evaluation_log.specs.Clashes.{SomeClash, NoClash}
use Rattle.evaluation_log.specs.Touched.{event_has, is_sought, range_has}
use Rattle.evaluation_log.proofs.TouchedLemmas.{count_is}
use Rattle.evaluation_log.proofs.ClashLemmas.{none_at_first, turn_none, turn_some}
use Rattle.evaluation_search.specs.First.{named}
use Rattle.evaluation_search.proofs.FirstLemmas.{flat_none, flat_more, flat_end}
use Rattle.evaluation_search.proofs.search.Search.least_meeting.Goals as goal

pub loop-at-init : goal.loop-at-init
loop-at-init c = record {
  bound = omega arith;
  none = none_at_first c.args.self.now.under.map.now c.args.self.now.log.events.now c.args.self.now.log.items.now c.args.sought c.args.range.0
      (holds c.args.foot.now);
  some = tt;
  first = flat_none c.args.self.now.under.frames.now (λ k. named c.args.self.now.place (slice_get c.args.self.now.log.events.now k))
      (λ (k : ℕ). is_sought c.args.sought (slice_get c.args.self.now.log.events.now k) ≡ true)
      (λ (k : ℕ). SomeClash c.args.sought c.args.self.now.under.map.now (event_has c.args.self.now.log.items.now (slice_get c.args.self.now.log.events.now k))
      (holds c.args.foot.now)) c.args.range.0;
}

pub loop-at-preserved : goal.loop-at-preserved
loop-at-preserved c = record {
  bound = omega arith;
  none = turn_none c.args.self.now.under.map.now c.args.self.now.log.events.now c.args.self.now.log.items.now c.args.sought c.args.range.0 c.loop-at.at
      (holds c.args.foot.now) c.loop-at.best _ c.loop-at.auto.at c.in_ok-best.ensures.none c.loop-at.invariant.none;
  some = turn_some (λ (k : ℕ). is_sought c.args.sought (slice_get c.args.self.now.log.events.now k) ≡ true)
      (λ (k : ℕ). SomeClash c.args.sought c.args.self.now.under.map.now (event_has c.args.self.now.log.items.now (slice_get c.args.self.now.log.events.now k))
      (holds c.args.foot.now)) c.loop-at.at c.loop-at.best _ c.in_ok-best.ensures.some c.loop-at.invariant.some;
  first = flat_more c.args.self.now.under.frames.now (λ k. named c.args.self.now.place (slice_get c.args.self.now.log.events.now k))
      (λ (k : ℕ). is_sought c.args.sought (slice_get c.args.self.now.log.events.now k) ≡ true)
      (λ (k : ℕ). SomeClash c.args.sought c.args.self.now.under.map.now (event_has c.args.self.now.log.items.now (slice_get c.args.self.now.log.events.now k))
      (holds c.args.foot.now)) c.args.range.0 c.loop-at.at c.loop-at.best _ c.loop-at.auto.at c.loop-at.invariant.first c.in_ok-best.ensures.takes;
}

pub returns-clause-none : goal.returns-clause-none
returns-clause-none c = subst
    (λ (n : ℕ). IfNone c.loop-at.best (NoClash c.args.sought c.args.self.now.under.map.now
    (range_has c.args.self.now.log.events.now c.args.self.now.log.items.now c.args.sought c.args.range.0 n) (holds c.args.foot.now)))
    (count_is c.args.range.0 c.args.range.1 c.loop-at.at c.loop-at.auto.at c.loop-at-test.false c.loop-at.invariant.bound) c.loop-at.invariant.none

pub returns-clause-first : goal.returns-clause-first
returns-clause-first c = flat_end c.args.self.now.under.frames.now (λ k. named c.args.self.now.place (slice_get c.args.self.now.log.events.now k))
    (λ (k : ℕ). is_sought c.args.sought (slice_get c.args.self.now.log.events.now k) ≡ true)
    (λ (k : ℕ). SomeClash c.args.sought c.args.self.now.under.map.now (event_has c.args.self.now.log.items.now (slice_get c.args.self.now.log.events.now k))
    (holds c.args.foot.now)) c.args.range.0 c.args.range.1 c.loop-at.at c.loop-at.best (omega (arith, c.loop-at-test.false)) c.loop-at.invariant.bound
    c.loop-at.invariant.first
