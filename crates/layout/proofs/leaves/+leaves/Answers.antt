use Rattle.std.proofs.Common.{ℕ, ◌+◌, ◌-◌, ◌^◌, min, map, ap, ◌∙◌}
use Rattle.c_types.specs.Shapes.{form_of}
use Rattle.c_types.specs.Leaves.{leaves}
use Rattle.layout.specs.Listed.{scalar_of}
use Rattle.layout.proofs.Added.{part_placed, part_repeated}
use Rattle.layout.proofs.leaves.+leaves.Goals as goal

pub add_parts-loop-placed-preserved : goal.add_parts-loop-placed-preserved
add_parts-loop-placed-preserved t c =
    part_placed c.args.parts.now c.loop-placed.placed-index c.placed-item.result c.args.offset c.saturating_add-at.result
    (map scalar_of c.loop-placed.leaves) (map scalar_of c.add_leaves.new.leaves) _
    c.loop-placed-test.true c.placed-item.is c.saturating_add-at.ensures c.in_ok-add_leaves.ensures c.loop-placed.invariant

pub add_repeated-loop-i-preserved : goal.add_repeated-loop-i-preserved
add_repeated-loop-i-preserved t c =
    part_repeated (map scalar_of c.args.leaves.now) (map scalar_of c.loop-i.leaves) (map scalar_of c.add_leaves.new.leaves)
    c.args.offset c.loop-i.i c.args.step c.saturating_add-at.result (leaves (form_of c.args.part.now))
    (c.saturating_add-at.ensures ∙ ap (λ (n : ℕ). min (c.args.offset + n) (2 ^ 64 - 1)) c.saturating_mul.ensures)
    c.loop-i.invariant c.in_ok-add_leaves.ensures
