use Rattle.std.proofs.Common.{ℕ, ◌+◌, ◌<◌, refl, subst, arith}
use Rattle.c_types.specs.Shapes.{put_of}
use Rattle.c_types.proofs.Forms.{nodes, inside}
use Rattle.mem_objects.proofs.TagLemmas.{parts_first, parts_next, parts_end}
use Rattle.mem_objects.specs.declared.types.Spanned.TheVariants as spans
use Rattle.mem_objects.proofs.types.+scalar.Goals as goal

pub part_at-placed_at-requires : goal.part_at-placed_at-requires
part_at-placed_at-requires t c = (
  subst (λ (n : ℕ). 1 + nodes (put_of c.placed-item.result).part < n) c.decreases
      (inside c.args.parts.now c.loop-placed.placed-index c.placed-item.result c.loop-placed-test.true c.placed-item.is),
  tt,
)

pub part_at-loop-placed-init : goal.part_at-loop-placed-init
part_at-loop-placed-init t c = parts_first c.args.parts.now c.args.at spans.None refl

pub part_at-loop-placed-preserved : goal.part_at-loop-placed-preserved
part_at-loop-placed-preserved t c =
    parts_next c.args.parts.now c.args.at c.loop-placed.placed-index c.placed-item.result c.loop-placed.found c.placed_at.result c.and-found.result
    c.loop-placed-test.true c.placed-item.is c.loop-placed.invariant c.placed_at.ensures c.and-found.ensures

pub part_at-returns : goal.part_at-returns
part_at-returns t c = parts_end c.args.parts.now c.args.at c.loop-placed.placed-index c.loop-placed.found (omega arith) c.loop-placed.invariant
