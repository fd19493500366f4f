use Rattle.std.proofs.Common.{◌≡◌, List, IfOk, subst}
use Rattle.std.specs.Prelude.{slice_get}
use Rattle.ub_base.specs.declared.names.Item.{Item}
use Rattle.footprint.specs.Holds.{holds}
use Rattle.evaluation_log.specs.declared.log.Logged.{Logged}
use Rattle.evaluation_log.specs.Touched.{event_has}
use Rattle.run_evaluations.proofs.open.Evaluations.event_foot.Goals as goal

pub returns : goal.returns
returns c =
    subst (λ (xs : List Logged). IfOk c.event_foot.result (λ f. (i : Item) → holds f i ≡ event_has c.args.self.now.items.items (slice_get xs c.args.at) i))
    c.as_log.ensures.events
    (subst (λ (xs : List Item). IfOk c.event_foot.result (λ f. (i : Item) → holds f i ≡ event_has xs (slice_get c.as_log.result.events.now c.args.at) i))
    c.as_log.ensures.items c.event_foot.ensures)
