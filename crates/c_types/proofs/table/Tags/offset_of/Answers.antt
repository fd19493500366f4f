use Rattle.std.proofs.Common.{◌∙◌, ap, List, ℕ, Option}
use Rattle.c_types.specs.declared.tags.Row.{Row}
use Rattle.c_types.specs.Layout.{offset_of}
use Rattle.c_types.specs.Table.{look}
use Rattle.c_types.proofs.Laid.{row_offset}
use Rattle.c_types.proofs.table.Tags.offset_of.Goals as goal

pub returns-in-Some : goal.returns-in-Some
returns-in-Some c =
    let here = c.in-Some.ensures in
    let by_rows : List Row → Option ℕ = λ rows. offset_of (look rows) c.in-Some.row.now.tag c.args.member in
    c.member_offset.ensures
    ∙ (ap by_rows c.as_slice.ensures
    ∙ row_offset c.self.inside.rows c.args.self.now c.args.tag c.args.member c.in-Some.row.now c.self.view_is c.self.invariant here.value)
