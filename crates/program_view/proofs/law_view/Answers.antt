use Rattle.program_view.proofs.Seen.{same_tree}
use Rattle.program_view.proofs.Forms.{forms_have_scalars}
use Rattle.program_view.proofs.Texts.{text_is_kept}
use Rattle.program_view.proofs.law_view.Goals as goal

pub returns : goal.returns
returns c = record { trees = same_tree; forms = forms_have_scalars; text = text_is_kept }
