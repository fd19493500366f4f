use Rattle.std.proofs.Common.{ap, ◌∙◌}
use Rattle.footprint.specs.declared.foot.Foot.{Foot}
use Rattle.footprint.specs.Holds.{holds}
use Rattle.evaluation_log.proofs.WholeLemmas.{more_by}
use Rattle.evaluation_log.proofs.log.add_to.Goals as goal

pub returns-in_ok-add_each : goal.returns-in_ok-add_each
returns-in_ok-add_each c =
    more_by c.args.foot.now c.in-Some.foot _ c.args.items.now c.in-Some.is
    (λ j h. c.in_ok-add_each.ensures.more j (ap (λ (x : Foot). holds x j) c.deref_mut.ensures.value ∙ h)) c.in_ok-add_each.ensures.all
