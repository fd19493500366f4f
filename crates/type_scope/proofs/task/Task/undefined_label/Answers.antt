use Rattle.std.proofs.Common.{ap, ◌∙◌, sym}
use Rattle.std.specs.Prelude.{not, is_some}
use Rattle.type_scope.proofs.Labels.{defined_next, undefined_here}
use Rattle.type_scope.proofs.task.Task.undefined_label.Goals as goal

pub returns-in-Some : goal.returns-in-Some
returns-in-Some c was has =
    ap not (sym (undefined_here c.loop-place.place was.labels was.defined (sym (c.undefined_at.ensures was has) ∙ ap is_some c.in-Some.is))
    ∙ c.loop-place.invariant was has)

pub loop-place-preserved : goal.loop-place-preserved
loop-place-preserved c was has =
    defined_next c.loop-place.place was.labels was.defined (sym (c.undefined_at.ensures was has) ∙ ap is_some c.in_default.is)
    ∙ c.loop-place.invariant was has
