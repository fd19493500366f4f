use Rattle.run_answers.proofs.Strayed.{leaves_standing}
use Rattle.run_answers.proofs.laws.law_straying.Goals as goal

pub returns : goal.returns
returns c = leaves_standing c.law_view.ensures.trees c.law_cursor.ensures.done
