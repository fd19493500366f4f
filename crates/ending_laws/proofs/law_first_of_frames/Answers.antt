use Rattle.ending_laws.proofs.Nested.{first_of_frames, open_are_nested}
use Rattle.ending_laws.proofs.Union.{first_of_all}
use Rattle.ending_laws.proofs.law_first_of_frames.Goals as goal

pub returns-clause-nested : goal.returns-clause-nested
returns-clause-nested c = open_are_nested

pub returns-clause-each : goal.returns-clause-each
returns-clause-each c = first_of_frames

pub returns-clause-all : goal.returns-clause-all
returns-clause-all c = first_of_all
