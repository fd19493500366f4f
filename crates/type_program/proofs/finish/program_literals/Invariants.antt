use Rattle.std.specs.List.{All}
use Rattle.c_typed.specs.Lawful.{HasBytes}
use Rattle.type_program.proofs.finish.program_literals.Given as goal

abbrev pub invariant-loop-row : goal.invariant-loop-row
invariant-loop-row l = All HasBytes l.literals
