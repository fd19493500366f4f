use Rattle.std.proofs.Common.{take}
use Rattle.std.specs.List.{All}
use Rattle.c_typed.specs.Lawful.{FunctionIsLawful}
use Rattle.lawful_program.proofs.program.are_lawful_functions.Given as goal

abbrev pub invariant-loop-function : goal.invariant-loop-function
invariant-loop-function l = All (FunctionIsLawful l.program) (take l.function-index l.functions)
