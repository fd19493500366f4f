use Rattle.std.proofs.Common.{◌∙◌, sym}
use Rattle.c_names.proofs.TextLemmas.{path_of-row_of, path_of-no_row}
use Rattle.c_names.proofs.OrderLemmas.{both_end_first, both_end_second}
use Rattle.c_names.proofs.order.both_rows.Goals as goal

pub returns-in_default-clause-one : goal.returns-in_default-clause-one
returns-in_default-clause-one c = both_end_first _ _ (path_of-no_row c.args.frames.now c.args.a.0 (sym c.row_at.ensures.row ∙ c.in_default.is)) c.requires

pub returns-in_default-row_at-clause-one : goal.returns-in_default-row_at-clause-one
returns-in_default-row_at-clause-one c =
    both_end_second _ _ (path_of-no_row c.args.frames.now c.args.b.0 (sym c.row_at-2.ensures.row ∙ c.in_default-row_at.is)) c.requires

pub returns-clause-first : goal.returns-clause-first
returns-clause-first c = path_of-row_of c.args.frames.now c.row_at.ensures.rows c.args.a.0 _ (sym c.row_at.ensures.row ∙ c.in-Some.is)

pub returns-clause-second : goal.returns-clause-second
returns-clause-second c = path_of-row_of c.args.frames.now c.row_at-2.ensures.rows c.args.b.0 _ (sym c.row_at-2.ensures.row ∙ c.in-Some-row_at.is)
