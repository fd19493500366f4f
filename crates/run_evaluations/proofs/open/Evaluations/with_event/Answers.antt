use Rattle.std.proofs.Common.{ap, ◌∙◌, ◌||◌}
use Rattle.footprint.specs.declared.foot.Foot.{Foot}
use Rattle.footprint.specs.Holds.{holds}
use Rattle.std.specs.Prelude.{slice_get}
use Rattle.evaluation_log.specs.Touched.{event_has}
use Rattle.evaluation_log.proofs.LooseWholeLemmas.{event_in}
use Rattle.run_evaluations.proofs.open.Evaluations.with_event.Goals as goal

pub returns : goal.returns
returns c =
    event_in c.args.foot c.in-Some.foot _ (event_has c.args.self.now.items.items (slice_get c.args.self.now.events.items c.args.at)) c.in-Some.is
    (λ j. c.in_ok-add_event.ensures j ∙
    ap (λ (x : Foot). holds x j || event_has c.args.self.now.items.items (slice_get c.args.self.now.events.items c.args.at) j) c.deref_mut.ensures.value)
