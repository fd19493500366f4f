use Rattle.c_types.proofs.SameTests.{equal_tells, matches_tells, functions_tell, agrees_tells}
use Rattle.c_types.proofs.same.law_same.Goals as goal

pub returns : goal.returns
returns c = record { equal = equal_tells; compatible = matches_tells; functions = functions_tell; agree = agrees_tells }
