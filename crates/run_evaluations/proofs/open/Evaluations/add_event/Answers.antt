use Rattle.std.proofs.Common.{◌≡◌, ◌||◌, List, subst}
use Rattle.std.specs.Prelude.{OnOk, slice_get}
use Rattle.ub_base.specs.declared.names.Item.{Item}
use Rattle.footprint.specs.Holds.{holds}
use Rattle.evaluation_log.specs.declared.log.Logged.{Logged}
use Rattle.evaluation_log.specs.Touched.{event_has}
use Rattle.run_evaluations.proofs.open.Evaluations.add_event.Goals as goal

pub returns : goal.returns
returns c =
    subst (λ (xs : List Logged). OnOk c.add_event.result
    ((i : Item) → holds c.add_event.new.foot i ≡ (holds c.args.foot.now i || event_has c.args.self.now.items.items (slice_get xs c.args.at) i)))
    c.as_log.ensures.events
    (subst (λ (xs : List Item). OnOk c.add_event.result
    ((i : Item) → holds c.add_event.new.foot i ≡ (holds c.args.foot.now i || event_has xs (slice_get c.as_log.result.events.now c.args.at) i)))
    c.as_log.ensures.items c.add_event.ensures)
