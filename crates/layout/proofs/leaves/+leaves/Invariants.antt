use Rattle.std.proofs.Common.{◌≡◌, ◌++◌, map, drop}
use Rattle.c_types.specs.Shapes.{form_of, forms_of, put_of}
use Rattle.c_types.specs.Leaves.{leaves, all_leaves, shifted, repeated_scalars}
use Rattle.layout.specs.Listed.{scalar_of, capped}
use Rattle.layout.proofs.leaves.+leaves.Given as goal

-- as often as the part was added
abbrev pub invariant-add_repeated-loop-i : goal.invariant-add_repeated-loop-i
invariant-add_repeated-loop-i l =
    map scalar_of l.leaves ≡ map scalar_of l.initial.leaves ++ map capped (shifted l.offset (repeated_scalars l.i l.step (leaves (form_of l.part))))

-- what is added, and what is left
abbrev pub invariant-add_parts-loop-placed : goal.invariant-add_parts-loop-placed
invariant-add_parts-loop-placed l =
    map scalar_of l.leaves ++ map capped (shifted l.offset (all_leaves (forms_of (map put_of (drop l.placed-index l.parts)))))
    ≡ map scalar_of l.initial.leaves ++ map capped (shifted l.offset (all_leaves (forms_of (map put_of l.parts))))
