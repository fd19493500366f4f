use Rattle.std.proofs.Common.{take}
use Rattle.std.specs.List.{All}
use Rattle.c_typed.specs.Lawful.{IsExternal}
use Rattle.lawful_program.proofs.program.are_external.Given as goal

abbrev pub invariant-loop-function : goal.invariant-loop-function
invariant-loop-function l = All IsExternal (take l.function-index l.functions)
