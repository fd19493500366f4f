use Rattle.control_laws.proofs.Arguments.{arguments_are_asked}
use Rattle.control_laws.proofs.law_entered_arguments.Goals as goal

pub returns : goal.returns
returns c = arguments_are_asked c.law_arguments.ensures.count c.law_arguments.ensures.taken
