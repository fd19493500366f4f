use Rattle.std.specs.List.{All}
use Rattle.c_typed.specs.Lawful.{IsExternal}
use Rattle.type_program.proofs.finish.program_functions.Given as goal

abbrev pub invariant-loop-row : goal.invariant-loop-row
invariant-loop-row l = All IsExternal l.functions
