use Rattle.std.proofs.Common.{take}
use Rattle.std.specs.List.{All}
use Rattle.c_types.specs.Types.{qualified_of}
use Rattle.c_typed.specs.Lawful.{IsSized}
use Rattle.lawful_bodies.proofs.found.are_sized.Given as goal

-- those seen are sized
abbrev pub invariant-loop-object : goal.invariant-loop-object
invariant-loop-object l = All (λ q. IsSized l.tags (qualified_of q).ty) (take l.object-index l.objects)
