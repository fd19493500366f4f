use Rattle.std.specs.Prelude.{slice_get}
use Rattle.footprint.specs.Holds.{holds}
use Rattle.evaluation_log.specs.Touched.{event_has}
use Rattle.evaluation_log.proofs.ClashLemmas.{none_like}
use Rattle.evaluation_log.proofs.LooseLemmas.{if_none_by, none_at}
use Rattle.evaluation_search.proofs.search.Search.sought_of_two.Goals as goal

pub returns-clause-none : goal.returns-clause-none
returns-clause-none c =
    if_none_by c.least_of_two.result _ (λ e one other.
    none_like c.args.self.now.under.map.now c.args.sought (holds c.in_ok-foot_a.foot_a)
    (event_has c.args.self.now.log.items.now (slice_get c.args.self.now.log.events.now c.args.a)) (holds c.in_ok-foot_b.foot_b)
    (event_has c.args.self.now.log.items.now (slice_get c.args.self.now.log.events.now c.args.b)) (λ j. c.in_ok-foot_a.ensures j)
    (λ j. c.in_ok-foot_b.ensures j) (none_at _ c.least_of_two.result e c.least_of_two.ensures.none))
