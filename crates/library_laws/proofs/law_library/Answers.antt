use Rattle.library_laws.proofs.MoreRows.{calls_more}
use Rattle.library_laws.proofs.Steps.{library_call_steps}
use Rattle.library_laws.proofs.law_library.Goals as goal

pub returns-clause-rows : goal.returns-clause-rows
returns-clause-rows c = calls_more c.law_more_calls.ensures.plain c.law_more_calls.ensures.formatted

pub returns-clause-steps : goal.returns-clause-steps
returns-clause-steps c = library_call_steps
