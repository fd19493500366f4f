use Rattle.c_types.specs.Types.{type_of}
use Rattle.mem_objects.proofs.TagLemmas.{Unlisted}
use Rattle.mem_objects.proofs.types.place_of.Given as goal

-- none of the types so far is this one
abbrev pub invariant-loop-at : goal.invariant-loop-at
invariant-loop-at l = Unlisted l.types (type_of l.ty) l.at
