use Rattle.std.proofs.Common.{◌≡◌, ◌+◌, ◌-◌}
use Rattle.c_types.specs.Types.{type_of}
use Rattle.mem_spec.specs.Acts.{tags_agree}
use Rattle.mem_objects.specs.Access.{bytes_in}
use Rattle.prov_memory.proofs.memory.Memory.suits_tags.Given as goal

-- the tags so far agree, so those that are left decide
abbrev pub invariant-loop-index : goal.invariant-loop-index
invariant-loop-index l = tags_agree (type_of l.ty) 0 (bytes_in l.self l.object l.from l.len) ≡ tags_agree (type_of l.ty) l.index
    (bytes_in l.self l.object (l.from + l.index) (l.len - l.index))
