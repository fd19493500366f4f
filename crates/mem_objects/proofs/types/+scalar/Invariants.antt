use Rattle.std.proofs.Common.{◌+◌, map}
use Rattle.c_types.specs.Shapes.{form_of, put_of, forms_of}
use Rattle.c_types.proofs.Forms.{nodes, all_nodes}
use Rattle.mem_objects.proofs.TagLemmas.{SpansSo}
use Rattle.mem_objects.proofs.types.+scalar.Given as goal

abbrev pub decreases-scalar_at : goal.decreases-scalar_at
decreases-scalar_at l = nodes (form_of l.shape.now)

abbrev pub decreases-part_at : goal.decreases-part_at
decreases-part_at l = all_nodes (forms_of (map put_of l.parts.now))

abbrev pub decreases-placed_at : goal.decreases-placed_at
decreases-placed_at l = 1 + nodes (put_of l.placed.now).part

-- what spans the byte among the parts so far
abbrev pub invariant-part_at-loop-placed : goal.invariant-part_at-loop-placed
invariant-part_at-loop-placed l = SpansSo l.parts l.at l.placed-index l.found
