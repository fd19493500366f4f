use Rattle.detector_laws.proofs.Answered.{answers_are_found}
use Rattle.detector_laws.proofs.law_answers_found.Goals as goal

pub returns : goal.returns
returns c = answers_are_found
