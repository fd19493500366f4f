use Rattle.c_types.specs.Types.{type_of}
use Rattle.c_types.specs.Shapes.{form_of}
use Rattle.c_types.specs.Leaves.{leaves, scalars}
use Rattle.layout.proofs.Added.{from_start}
use Rattle.layout.proofs.Within.{exact_scalars}
use Rattle.layout.proofs.leaves.scalars_at.Goals as goal

pub returns : goal.returns
returns c =
    from_start c.add_leaves.new.leaves c.new-leaves.result (leaves (form_of c.in_ok-shape.shape)) (scalars c.args.tags.now (type_of c.args.ty.now))
    c.new-leaves.ensures c.in_ok-add_leaves.ensures c.in_ok-shape.ensures
    (exact_scalars c.args.tags.now c.law_extents.ensures (type_of c.args.ty.now) c.requires)
