use Rattle.std.specs.List.{All}
use Rattle.c_typed.specs.Lawful.{IsComplete}
use Rattle.type_program.proofs.statics.program_statics.Given as goal

abbrev pub invariant-loop-row : goal.invariant-loop-row
invariant-loop-row l = All (IsComplete l.tags) l.statics
