use Rattle.run_answers.proofs.Called.{function_stands}
use Rattle.run_answers.proofs.Calling.{function_steps}
use Rattle.run_answers.proofs.laws.law_calls.Goals as goal

pub returns-clause-stands : goal.returns-clause-stands
returns-clause-stands c = function_stands c.law_view.ensures.trees c.law_cursor.ensures.starts

pub returns-clause-steps : goal.returns-clause-steps
returns-clause-steps c = function_steps
