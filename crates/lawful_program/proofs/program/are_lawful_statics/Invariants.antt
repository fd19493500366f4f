use Rattle.std.proofs.Common.{take}
use Rattle.std.specs.List.{All}
use Rattle.c_typed.specs.Lawful.{StaticIsLawful}
use Rattle.lawful_program.proofs.program.are_lawful_statics.Given as goal

abbrev pub invariant-loop-object : goal.invariant-loop-object
invariant-loop-object l = All (StaticIsLawful l.program) (take l.object-index l.statics)
