use Rattle.std.proofs.Common.{◌∙◌, sym, ap, List, Option}
use Rattle.c_types.specs.declared.tags.Row.{Row}
use Rattle.c_types.specs.declared.tags.Tag.{Tag}
use Rattle.c_types.specs.declared.tags.Extent.{Extent}
use Rattle.c_types.specs.Types.{type_of}
use Rattle.c_types.specs.Layout.{extent, extents}
use Rattle.c_types.specs.Table.{look}
use Rattle.c_types.proofs.Laid.{extent-look}
use Rattle.c_types.proofs.table.Tags.extent.Goals as goal

pub returns-clause-value : goal.returns-clause-value
returns-clause-value c =
    let by_rows : List Row → Option Extent = λ rows. extent (look rows) (type_of c.args.ty.now) in
    let by_tags : List Tag → Option Extent = λ tags. extent (extents tags) (type_of c.args.ty.now) in
    c.extent.ensures.value
    ∙ (ap by_rows c.as_slice.ensures
    ∙ (sym (extent-look c.self.inside.rows c.self.invariant (type_of c.args.ty.now)) ∙ ap by_tags c.self.view_is))
