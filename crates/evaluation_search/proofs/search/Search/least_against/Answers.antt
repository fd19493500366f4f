use Rattle.std.proofs.Common.{◌≡◌, ◌∙◌, ◌-◌, ℕ, true, Option, refl, sym, subst}
use Rattle.std.specs.Prelude.{slice_get}
use Rattle.footprint.specs.Holds.{holds}
use Rattle.evaluation_log.specs.Clashes.{SomeClash}
use Rattle.evaluation_log.specs.Touched.{event_has, is_sought, range_has}
use Rattle.evaluation_log.proofs.BetweenLemmas.{none_turned, never}
use Rattle.evaluation_log.proofs.ClashLemmas.{at_none, at_some, none_like}
use Rattle.evaluation_log.proofs.LooseLemmas.{if_none_by, none_at}
use Rattle.evaluation_search.proofs.BetweenFirst.{LeastOther, against_none, against_some}
use Rattle.evaluation_search.proofs.search.Search.least_against.Goals as goal

pub returns-in_default-clause-none : goal.returns-in_default-clause-none
returns-in_default-clause-none c = λ sought.
    none_like c.args.self.now.under.map.now c.args.sought (holds c.in_ok-foot.foot) (event_has c.args.self.now.log.items.now
    (slice_get c.args.self.now.log.events.now c.args.event))
    (range_has c.args.self.now.log.events.now c.args.self.now.log.items.now c.args.sought c.args.range.0 (c.args.range.1 - c.args.range.0))
    (range_has c.args.self.now.log.events.now c.args.self.now.log.items.now c.args.sought c.args.range.0 (c.args.range.1 - c.args.range.0))
    (λ j. c.in_ok-foot.ensures j) (λ j. refl)
    (none_turned c.args.self.now.under.map.now c.args.sought
    (range_has c.args.self.now.log.events.now c.args.self.now.log.items.now c.args.sought c.args.range.0 (c.args.range.1 - c.args.range.0))
    (holds c.in_ok-foot.foot)
    (at_none _ c.in_ok-other.field-0 c.in_default.is c.in_ok-other.ensures.none))

pub returns-clause-none : goal.returns-clause-none
returns-clause-none c = λ sought. if_none_by c.least_of_two.result _ (λ e.
    absurd
    (never c.args.self.now.under.map.now c.args.sought (event_has c.args.self.now.log.items.now (slice_get c.args.self.now.log.events.now c.in-Some.other))
    (holds c.in_ok-foot.foot)
    (holds c.in_ok-other_foot.other_foot) (holds c.in_ok-foot.foot) (λ j. sym (c.in_ok-other_foot.ensures j)) (λ j. refl)
    (at_some (λ (k : ℕ). (is_sought c.args.sought (slice_get c.args.self.now.log.events.now k) ≡ true) ×
    SomeClash c.args.sought c.args.self.now.under.map.now (event_has c.args.self.now.log.items.now (slice_get c.args.self.now.log.events.now k))
    (holds c.in_ok-foot.foot)) c.in_ok-other.field-0
    c.in-Some.other c.in-Some.is c.in_ok-other.ensures.some).1
    (none_turned c.args.self.now.under.map.now c.args.sought (holds c.in_ok-foot.foot) (holds c.in_ok-other_foot.other_foot)
    (none_at _ c.least_of_two.result e c.least_of_two.ensures.none))))

pub returns-in_default-clause-first : goal.returns-in_default-clause-first
returns-in_default-clause-first c =
    against_none c.args.self.now.under.frames.now c.args.self.now.under.map.now c.args.self.now.place c.args.self.now.log.events.now
    c.args.self.now.log.items.now c.args.sought c.args.event
    c.args.range.0 c.args.range.1 c.in_ok-foot.foot (λ j. c.in_ok-foot.ensures j)
    (subst (λ (o : Option ℕ). LeastOther c.args.self.now.under.frames.now c.args.self.now.under.map.now c.args.self.now.place c.args.self.now.log.events.now
    c.args.self.now.log.items.now
    c.args.sought c.args.event c.args.range.0 c.args.range.1 c.in_ok-foot.foot (λ j. c.in_ok-foot.ensures j) o) c.in_default.is c.in_ok-other.ensures.first)

pub returns-clause-first : goal.returns-clause-first
returns-clause-first c =
    against_some c.args.self.now.under.frames.now c.args.self.now.under.map.now c.args.self.now.place c.args.self.now.log.events.now
    c.args.self.now.log.items.now c.args.sought c.args.event
    c.args.range.0 c.args.range.1 c.in_ok-foot.foot (λ j. c.in_ok-foot.ensures j) c.in-Some.other c.in_ok-other_foot.other_foot c.least_of_two.result
    (λ j. c.in_ok-other_foot.ensures j)
    (subst (λ (o : Option ℕ). LeastOther c.args.self.now.under.frames.now c.args.self.now.under.map.now c.args.self.now.place c.args.self.now.log.events.now
    c.args.self.now.log.items.now
    c.args.sought c.args.event c.args.range.0 c.args.range.1 c.in_ok-foot.foot (λ j. c.in_ok-foot.ensures j) o) c.in-Some.is c.in_ok-other.ensures.first)
    (c.least_of_two.ensures.first (λ j. c.in_ok-foot.ensures j) (λ j. c.in_ok-other_foot.ensures j)) c.least_of_two.ensures.none
