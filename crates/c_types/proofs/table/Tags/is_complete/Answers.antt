use Rattle.std.proofs.Common.{◌∙◌, ap}
use Rattle.std.specs.Prelude.{is_some}
use Rattle.c_types.proofs.Laid.{row_extent}
use Rattle.c_types.proofs.table.Tags.is_complete.Goals as goal

pub returns-in-Some : goal.returns-in-Some
returns-in-Some c =
    let here = c.in-Some.ensures in
    c.is_some.ensures ∙ ap is_some (row_extent c.self.inside.rows c.args.self.now c.args.tag c.in-Some.row.now c.self.view_is c.self.invariant here.value)
