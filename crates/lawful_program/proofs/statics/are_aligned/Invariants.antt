use Rattle.std.proofs.Common.{take}
use Rattle.std.specs.List.{All}
use Rattle.c_types.specs.Types.{type_of}
use Rattle.c_types.specs.Leaves.{scalars}
use Rattle.c_typed.specs.Lawful.{ContentSuits}
use Rattle.lawful_program.proofs.statics.are_aligned.Given as goal

abbrev pub invariant-loop-constant : goal.invariant-loop-constant
invariant-loop-constant l = All (λ c. ContentSuits l.program (scalars l.program.tags (type_of l.ty)) c.at c.content) (take l.constant-index l.constants)
