use Rattle.parse_complete.proofs.Units.{trees_are_read, trees_are_unique, refused_is_unspelled}
use Rattle.parse_complete.proofs.laws.law_complete.Goals as goal

pub returns-clause-complete : goal.returns-clause-complete
returns-clause-complete c = trees_are_read

pub returns-clause-unique : goal.returns-clause-unique
returns-clause-unique c = trees_are_unique

pub returns-clause-refused : goal.returns-clause-refused
returns-clause-refused c = refused_is_unspelled
