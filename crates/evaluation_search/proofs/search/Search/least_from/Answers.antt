use Rattle.std.proofs.Common.{◌≡◌, ◌≤◌, ◌<◌, ◌-◌, ℕ, true, length, refl, subst, Option}
use Rattle.std.specs.Prelude.{slice_get, IfNone}
use Rattle.footprint.specs.Holds.{holds}
use Rattle.evaluation_log.specs.Clashes.{SomeClash, NoClash, operand_has, behind_has}
use Rattle.evaluation_log.specs.Touched.{event_has, is_sought, range_has}
use Rattle.evaluation_log.proofs.BetweenLemmas.{operand_by, behind_by, never}
use Rattle.evaluation_log.proofs.ClashLemmas.{at_none, at_some, none_like, ok_none}
use Rattle.evaluation_search.specs.First.{AreFrom, IsFirstOf, IsSoughtPair}
use Rattle.evaluation_search.proofs.BetweenFirst.{LeastOwn, from_none, from_some, ok_both}
use Rattle.evaluation_search.proofs.search.Search.least_from.Goals as goal

pub returns-in-Some-clause-none : goal.returns-in-Some-clause-none
returns-in-Some-clause-none c =
    let met = at_some (λ (k : ℕ). (is_sought c.args.sought (slice_get c.args.self.now.log.events.now k) ≡ true) ×
    SomeClash c.args.sought c.args.self.now.under.map.now (event_has c.args.self.now.log.items.now (slice_get c.args.self.now.log.events.now k))
    (holds c.in_ok-rest.rest)) c.in_ok-event.field-0
    c.in-Some.event c.in-Some.is c.in_ok-event.ensures.some in
    ok_none
    (NoClash c.args.sought c.args.self.now.under.map.now (event_has c.args.self.now.log.items.now (slice_get c.args.self.now.log.events.now c.in-Some.event))
    (range_has c.args.self.now.log.events.now c.args.self.now.log.items.now c.args.sought c.segment_end.result
    (length c.args.self.now.log.events.now - c.segment_end.result)))
    (NoClash c.args.sought c.args.self.now.under.map.now
    (operand_has c.args.sought c.args.segments.now c.args.self.now.log.events.now c.args.self.now.log.items.now c.args.group)
    (behind_has c.args.sought c.args.segments.now c.args.self.now.log.events.now c.args.self.now.log.items.now c.args.group))
    c.least_against.result
    (λ none. absurd (never c.args.self.now.under.map.now c.args.sought (event_has c.args.self.now.log.items.now
    (slice_get c.args.self.now.log.events.now c.in-Some.event)) (holds c.in_ok-rest.rest)
    (event_has c.args.self.now.log.items.now (slice_get c.args.self.now.log.events.now c.in-Some.event))
    (range_has c.args.self.now.log.events.now c.args.self.now.log.items.now c.args.sought c.segment_end.result
    (length c.args.self.now.log.events.now - c.segment_end.result))
    (λ j. refl) (λ j. c.in_ok-rest.ensures j) met.1 none))
    (c.least_against.ensures.none met.0)

pub returns-clause-none : goal.returns-clause-none
returns-clause-none c =
    none_like c.args.self.now.under.map.now c.args.sought
    (range_has c.args.self.now.log.events.now c.args.self.now.log.items.now c.args.sought c.segment_start.result
    (c.segment_end.result - c.segment_start.result))
    (operand_has c.args.sought c.args.segments.now c.args.self.now.log.events.now c.args.self.now.log.items.now c.args.group) (holds c.in_ok-rest.rest)
    (behind_has c.args.sought c.args.segments.now c.args.self.now.log.events.now c.args.self.now.log.items.now c.args.group)
    (operand_by c.args.segments.now c.args.self.now.log.events.now c.args.self.now.log.items.now c.args.sought c.args.group c.segment_start.result
    c.segment_end.result
    (range_has c.args.self.now.log.events.now c.args.self.now.log.items.now c.args.sought c.segment_start.result
    (c.segment_end.result - c.segment_start.result))
    c.segment_start.ensures c.segment_end.ensures (λ j. refl))
    (behind_by c.args.segments.now c.args.self.now.log.events.now c.args.self.now.log.items.now c.args.sought c.args.group
    c.segment_end.result (length c.args.self.now.log.events.now)
    (holds c.in_ok-rest.rest) c.segment_end.ensures refl (λ j. c.in_ok-rest.ensures j))
    (at_none _ c.in_ok-event.field-0 c.in-None.is c.in_ok-event.ensures.none)

pub returns-clause-first : goal.returns-clause-first
returns-clause-first c = λ once.
    from_none c.args.self.now.under.frames.now c.args.self.now.under.map.now c.args.self.now.place c.args.self.now.log.events.now c.args.self.now.log.items.now
    c.args.segments.now c.args.sought c.args.group c.segment_start.result c.segment_end.result c.segment_start.ensures c.segment_end.ensures
    (holds c.in_ok-rest.rest) (λ j. c.in_ok-rest.ensures j)
    (subst (λ (o : Option ℕ). LeastOwn c.args.self.now.under.frames.now c.args.self.now.under.map.now c.args.self.now.place c.args.self.now.log.events.now
    c.args.self.now.log.items.now
    c.args.segments.now c.args.sought c.args.group c.segment_start.result c.segment_end.result c.segment_start.ensures c.segment_end.ensures
    (holds c.in_ok-rest.rest) (λ j. c.in_ok-rest.ensures j) o)
    c.in-None.is c.in_ok-event.ensures.first)

pub returns-in-Some-clause-first : goal.returns-in-Some-clause-first
returns-in-Some-clause-first c = λ once.
    let met = at_some (λ (k : ℕ). (is_sought c.args.sought (slice_get c.args.self.now.log.events.now k) ≡ true) ×
    SomeClash c.args.sought c.args.self.now.under.map.now (event_has c.args.self.now.log.items.now (slice_get c.args.self.now.log.events.now k))
    (holds c.in_ok-rest.rest)) c.in_ok-event.field-0
    c.in-Some.event c.in-Some.is c.in_ok-event.ensures.some in
    ok_both
    (IsFirstOf c.args.self.now.under.frames.now (IsSoughtPair c.args.sought c.args.self.now.under.frames.now c.args.self.now.under.map.now c.args.self.now.place
    c.args.self.now.log.events.now c.args.self.now.log.items.now
    (λ a b. (a ≡ c.in-Some.event) × (c.segment_end.result ≤ b) × (b < length c.args.self.now.log.events.now))))
    (λ r. IfNone r (NoClash c.args.sought c.args.self.now.under.map.now (event_has c.args.self.now.log.items.now
    (slice_get c.args.self.now.log.events.now c.in-Some.event))
    (range_has c.args.self.now.log.events.now c.args.self.now.log.items.now c.args.sought c.segment_end.result
    (length c.args.self.now.log.events.now - c.segment_end.result))))
    (IsFirstOf c.args.self.now.under.frames.now (IsSoughtPair c.args.sought c.args.self.now.under.frames.now c.args.self.now.under.map.now c.args.self.now.place
    c.args.self.now.log.events.now c.args.self.now.log.items.now
    (AreFrom c.args.segments.now c.args.self.now.log.events.now c.args.group)))
    c.least_against.result
    (λ r first none. from_some c.args.self.now.under.frames.now c.args.self.now.under.map.now c.args.self.now.place c.args.self.now.log.events.now
    c.args.self.now.log.items.now
    c.args.segments.now c.args.sought c.args.group c.segment_start.result c.segment_end.result c.segment_start.ensures c.segment_end.ensures
    (holds c.in_ok-rest.rest) (λ j. c.in_ok-rest.ensures j)
    once c.in-Some.event r
    (subst (λ (o : Option ℕ). LeastOwn c.args.self.now.under.frames.now c.args.self.now.under.map.now c.args.self.now.place c.args.self.now.log.events.now
    c.args.self.now.log.items.now
    c.args.segments.now c.args.sought c.args.group c.segment_start.result c.segment_end.result c.segment_start.ensures c.segment_end.ensures
    (holds c.in_ok-rest.rest) (λ j. c.in_ok-rest.ensures j) o)
    c.in-Some.is c.in_ok-event.ensures.first) first none)
    c.least_against.ensures.first (c.least_against.ensures.none met.0)
