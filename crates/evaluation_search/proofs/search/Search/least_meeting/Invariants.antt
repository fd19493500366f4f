-- No event so far meets the set, or the best one does.
use Rattle.std.specs.Prelude.{◌≡◌, ◌≤◌, ◌<◌, ◌-◌, max, true, IfNone, IfSome, slice_get}
use Rattle.footprint.specs.Holds.{holds}
use Rattle.evaluation_log.specs.Clashes.{SomeClash, NoClash}
use Rattle.evaluation_log.specs.Touched.{event_has, is_sought, range_has}
use Rattle.evaluation_search.specs.First.{IsLeastEvent, named}
use Rattle.evaluation_search.proofs.search.Search.least_meeting.Given as goal

abbrev pub invariant-loop-at : goal.invariant-loop-at
invariant-loop-at l = record {
  bound : l.at ≤ max l.fn.range.0 l.fn.range.1;
  none : IfNone l.best
      (NoClash l.sought l.self.under.map.now (range_has l.self.log.events.now l.self.log.items.now l.sought l.fn.range.0 (l.at - l.fn.range.0))
      (holds l.foot));
  some : IfSome l.best (λ k. (is_sought l.sought (slice_get l.self.log.events.now k) ≡ true) ×
      SomeClash l.sought l.self.under.map.now (event_has l.self.log.items.now (slice_get l.self.log.events.now k)) (holds l.foot));
  first : IsLeastEvent l.self.under.frames.now (λ k. named l.self.place (slice_get l.self.log.events.now k))
      (λ k. (l.fn.range.0 ≤ k) × (k < l.at) × (is_sought l.sought (slice_get l.self.log.events.now k) ≡ true) ×
      SomeClash l.sought l.self.under.map.now (event_has l.self.log.items.now (slice_get l.self.log.events.now k)) (holds l.foot)) l.best;
}
