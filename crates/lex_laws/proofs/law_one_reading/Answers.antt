use Rattle.lex_laws.proofs.Readings.{never_both, one_fault, one_list}
use Rattle.lex_laws.proofs.law_one_reading.Goals as goal

pub returns-clause-list : goal.returns-clause-list
returns-clause-list c = one_list

pub returns-clause-fault : goal.returns-clause-fault
returns-clause-fault c = one_fault

pub returns-clause-one : goal.returns-clause-one
returns-clause-one c = never_both
