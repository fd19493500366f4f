use Rattle.std.proofs.Common.{ℕ, ◌≤◌, ◌<◌}
use Rattle.std.specs.Prelude.{IfNone}
use Rattle.evaluation_log.specs.Clashes.{SomeClash, NoClash, NoneBetween, operand_has, behind_has}
use Rattle.evaluation_log.proofs.ClashLemmas.{at_none, at_some, ok_none, not_none}
use Rattle.evaluation_search.specs.First.{AreBetween, AreFrom, IsFirstOf, IsSoughtPair}
use Rattle.evaluation_search.proofs.BetweenFirst.{between_clean, between_first, once_from, ok_both}
use Rattle.evaluation_search.proofs.search.Search.least_between.Goals as goal

pub returns-in-Some-clause-none : goal.returns-in-Some-clause-none
returns-in-Some-clause-none c = λ sorted.
    ok_none
    (NoClash c.args.sought c.args.self.now.under.map.now
    (operand_has c.args.sought c.args.segments.now c.args.self.now.log.events.now c.args.self.now.log.items.now c.in-Some.group)
    (behind_has c.args.sought c.args.segments.now c.args.self.now.log.events.now c.args.self.now.log.items.now c.in-Some.group))
    (NoneBetween c.args.sought c.args.self.now.under.map.now c.args.segments.now c.args.self.now.log.events.now c.args.self.now.log.items.now c.args.at)
    c.least_from.result
    (not_none c.args.self.now.under.map.now c.args.sought
    (operand_has c.args.sought c.args.segments.now c.args.self.now.log.events.now c.args.self.now.log.items.now c.in-Some.group)
    (behind_has c.args.sought c.args.segments.now c.args.self.now.log.events.now c.args.self.now.log.items.now c.in-Some.group)
    (NoneBetween c.args.sought c.args.self.now.under.map.now c.args.segments.now c.args.self.now.log.events.now c.args.self.now.log.items.now c.args.at)
    (at_some (λ (g : ℕ). SomeClash c.args.sought c.args.self.now.under.map.now
    (operand_has c.args.sought c.args.segments.now c.args.self.now.log.events.now c.args.self.now.log.items.now g)
    (behind_has c.args.sought c.args.segments.now c.args.self.now.log.events.now c.args.self.now.log.items.now g))
    c.in_ok-group.field-0 c.in-Some.group c.in-Some.is
    (c.in_ok-group.ensures.some sorted)))
    c.least_from.ensures.none

pub returns-in-None-clause-none : goal.returns-in-None-clause-none
returns-in-None-clause-none c = λ sorted. at_none _ c.in_ok-group.field-0 c.in-None.is (c.in_ok-group.ensures.none sorted)

pub returns-in-None-clause-first : goal.returns-in-None-clause-first
returns-in-None-clause-first c = λ sorted rising once.
    between_clean c.args.self.now.under.frames.now c.args.self.now.under.map.now c.args.self.now.place c.args.self.now.log.events.now
    c.args.self.now.log.items.now
    c.args.segments.now c.args.sought c.args.at sorted rising
    (at_none _ c.in_ok-group.field-0 c.in-None.is (c.in_ok-group.ensures.none sorted))

pub returns-in-Some-clause-first : goal.returns-in-Some-clause-first
returns-in-Some-clause-first c = λ sorted rising once.
    let first = at_some (λ (g : ℕ). (c.args.at ≤ g) × ((h : ℕ) → c.args.at ≤ h → h < g → NoClash c.args.sought c.args.self.now.under.map.now
    (operand_has c.args.sought c.args.segments.now c.args.self.now.log.events.now c.args.self.now.log.items.now h)
    (behind_has c.args.sought c.args.segments.now c.args.self.now.log.events.now c.args.self.now.log.items.now h)))
    c.in_ok-group.field-0 c.in-Some.group c.in-Some.is (c.in_ok-group.ensures.first sorted) in
    let clash = at_some (λ (g : ℕ). SomeClash c.args.sought c.args.self.now.under.map.now
    (operand_has c.args.sought c.args.segments.now c.args.self.now.log.events.now c.args.self.now.log.items.now g)
    (behind_has c.args.sought c.args.segments.now c.args.self.now.log.events.now c.args.self.now.log.items.now g))
    c.in_ok-group.field-0 c.in-Some.group c.in-Some.is (c.in_ok-group.ensures.some sorted) in
    ok_both
    (IsFirstOf c.args.self.now.under.frames.now (IsSoughtPair c.args.sought c.args.self.now.under.frames.now c.args.self.now.under.map.now c.args.self.now.place
    c.args.self.now.log.events.now c.args.self.now.log.items.now
    (AreFrom c.args.segments.now c.args.self.now.log.events.now c.in-Some.group)))
    (λ r. IfNone r (NoClash c.args.sought c.args.self.now.under.map.now
    (operand_has c.args.sought c.args.segments.now c.args.self.now.log.events.now c.args.self.now.log.items.now c.in-Some.group)
    (behind_has c.args.sought c.args.segments.now c.args.self.now.log.events.now c.args.self.now.log.items.now c.in-Some.group)))
    (IsFirstOf c.args.self.now.under.frames.now (IsSoughtPair c.args.sought c.args.self.now.under.frames.now c.args.self.now.under.map.now c.args.self.now.place
    c.args.self.now.log.events.now c.args.self.now.log.items.now
    (AreBetween c.args.segments.now c.args.self.now.log.events.now c.args.at)))
    c.least_from.result
    (λ r own none. between_first c.args.self.now.under.frames.now c.args.self.now.under.map.now c.args.self.now.place c.args.self.now.log.events.now
    c.args.self.now.log.items.now
    c.args.segments.now c.args.sought c.args.at sorted rising
    c.in-Some.group r first.0 first.1 clash own none)
    (c.least_from.ensures.first (once_from c.args.segments.now c.args.self.now.log.events.now c.args.at c.in-Some.group sorted first.0 once))
    c.least_from.ensures.none
