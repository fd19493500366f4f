use Rattle.frame_records.proofs.Answers.{answers_are_first}
use Rattle.frame_records.proofs.law_answers_first.Goals as goal

pub returns : goal.returns
returns c = answers_are_first
