use Rattle.std.proofs.Common.{◌≡◌, vec_len, map}
use Rattle.c_types.specs.Types.{qualified_of}
use Rattle.typing_env.specs.Seen.{tag_seen}
use Rattle.type_declarators.specs.Parts.{applied, parts_seen, AllFit}
use Rattle.type_declarators.proofs.declarator.applied.Given as goal

abbrev pub invariant-loop-part : goal.invariant-loop-part
invariant-loop-part l = AllFit l.initial.parts.items → AllFit l.parts.items × (
    applied (map tag_seen l.state.tags) (parts_seen l.parts.items) (qualified_of l.qual)
    ≡ applied (map tag_seen l.state.tags) (parts_seen l.initial.parts.items) (qualified_of l.initial.qual))

abbrev pub decreases-loop-part : goal.decreases-loop-part
decreases-loop-part l = vec_len l.parts
