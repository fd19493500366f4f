use Rattle.std.proofs.Common.{◌≡◌, ◌+◌, ◌*◌, ◌≤◌, map}
use Rattle.c_types.specs.Types.{type_of}
use Rattle.c_types.specs.Shapes.{none, put_of}
use Rattle.program_view.specs.Objects.{forms_by}
use Rattle.run_objects.specs.Opened.{before, remaining, AreRoomy, weight_with, weight_by, open_work, work}
use Rattle.run_objects.proofs.shapes.+shape.Given as goal

abbrev pub decreases-shape_within : goal.decreases-shape_within
decreases-shape_within l = 2 * weight_with (weight_by l.depth l.tags.now) (type_of l.ty.now) + 3

abbrev pub decreases-single_shape : goal.decreases-single_shape
decreases-single_shape l = 2 * weight_with (weight_by l.depth l.tags.now) (type_of l.ty.now) + 2

abbrev pub decreases-parts_within : goal.decreases-parts_within
decreases-parts_within l = 2 * (1 + weight_by l.depth l.tags.now l.tag) + 1

abbrev pub decreases-place_member : goal.decreases-place_member
decreases-place_member l = 2 * open_work l.tags.now l.current

-- what is placed, and what is left
abbrev pub invariant-parts_within-loop-current : goal.invariant-parts_within-loop-current
invariant-parts_within-loop-current l =
    (before (map put_of l.parts) (remaining l.tags l.opened none) ≡ forms_by l.depth l.tags l.tag)
    × (AreRoomy l.tags l.opened × (work l.tags l.opened ≤ 1 + weight_by l.depth l.tags l.tag))

abbrev pub decreases-parts_within-loop-current : goal.decreases-parts_within-loop-current
decreases-parts_within-loop-current l = work l.tags l.opened
