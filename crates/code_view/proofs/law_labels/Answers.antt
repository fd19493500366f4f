use Rattle.code_view.proofs.Labels.{labels_kept}
use Rattle.code_view.proofs.law_labels.Goals as goal

pub returns : goal.returns
returns c = labels_kept
