use Rattle.run_answers.proofs.Nodes.{acts_are_of_nodes}
use Rattle.run_answers.proofs.Takes.{call_takes_given, permitted_takes_given}
use Rattle.run_answers.proofs.laws.law_acts.Goals as goal

pub returns-clause-nodes : goal.returns-clause-nodes
returns-clause-nodes c = acts_are_of_nodes

pub returns-clause-takes : goal.returns-clause-takes
returns-clause-takes c = permitted_takes_given c.law_operands.ensures.known c.law_operands.ensures.rooms

pub returns-clause-calls : goal.returns-clause-calls
returns-clause-calls c = call_takes_given c.law_operands.ensures.known c.law_operands.ensures.rooms
