use Rattle.std.proofs.Common.{List, ap, ◌∙◌}
use Rattle.std.specs.Prelude.{slice_get}
use Rattle.evaluation_log.specs.declared.log.Segment.{Segment}
use Rattle.run_evaluations.proofs.open.Evaluations.all_harmless.Goals as goal

pub returns : goal.returns
returns c = λ h g s le e. c.all_harmless.ensures h g s le (ap (λ (xs : List Segment). slice_get xs g) c.deref.ensures.value ∙ e)
