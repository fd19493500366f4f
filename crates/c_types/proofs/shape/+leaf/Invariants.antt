use Rattle.std.proofs.Common.{◌↔◌, ◌+◌, map, drop}
use Rattle.c_types.specs.Types.{type_of}
use Rattle.c_types.proofs.Forms.{nodes, all_nodes}
use Rattle.c_types.specs.Shapes.{form_of, put_of, forms_of, SomeAgrees}
use Rattle.c_types.proofs.shape.+leaf.Given as goal

-- so far none agrees
abbrev pub invariant-some_agrees-loop-placed : goal.invariant-some_agrees-loop-placed
invariant-some_agrees-loop-placed l =
    SomeAgrees (type_of l.ty) (forms_of (map put_of l.parts)) l.at
    ↔ SomeAgrees (type_of l.ty) (forms_of (map put_of (drop l.placed-index l.parts))) l.at

abbrev pub decreases-leaf_agrees : goal.decreases-leaf_agrees
decreases-leaf_agrees l = nodes (form_of l.shape.now)

abbrev pub decreases-placed_agrees : goal.decreases-placed_agrees
decreases-placed_agrees l = 1 + nodes (put_of l.placed.now).part

abbrev pub decreases-some_agrees : goal.decreases-some_agrees
decreases-some_agrees l = all_nodes (forms_of (map put_of l.parts.now))
