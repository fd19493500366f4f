use Rattle.std.proofs.Common.{ℕ, ◌+◌, ◌<◌, subst}
use Rattle.c_types.specs.Shapes.{put_of}
use Rattle.c_types.proofs.Forms.{nodes, inside}
use Rattle.c_types.proofs.shape.+leaf.Goals as goal

pub some_agrees-placed_agrees-requires : goal.some_agrees-placed_agrees-requires
some_agrees-placed_agrees-requires t c = (
  subst (λ (n : ℕ). 1 + nodes (put_of c.placed-item.result).part < n) c.decreases
      (inside c.args.parts.now c.loop-placed.placed-index c.placed-item.result c.loop-placed-test.true c.placed-item.is),
  tt,
)
