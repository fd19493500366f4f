use Rattle.std.proofs.Common.{take}
use Rattle.std.specs.List.{All}
use Rattle.c_typed.specs.Lawful.{ContentIsLawful}
use Rattle.lawful_trees.proofs.addresses.are_lawful_contents.Given as goal

abbrev pub invariant-loop-constant : goal.invariant-loop-constant
invariant-loop-constant l = All (λ c. ContentIsLawful l.program c.content) (take l.constant-index l.constants)
