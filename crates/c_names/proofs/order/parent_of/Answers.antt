use Rattle.std.proofs.Common.{◌∙◌, sym}
use Rattle.c_names.proofs.TextLemmas.{path_of-row_of, path_of-no_row}
use Rattle.c_names.proofs.OrderLemmas.{drop_cons, drop_none}
use Rattle.c_names.proofs.order.parent_of.Goals as goal

pub returns-in-Some : goal.returns-in-Some
returns-in-Some c = drop_cons _ _ _ (path_of-row_of c.args.frames.now c.row_at.ensures.rows c.args.frame.0 _ (sym c.row_at.ensures.row ∙ c.in-Some.is))

pub returns-in-None : goal.returns-in-None
returns-in-None c = drop_none _ (path_of-no_row c.args.frames.now c.args.frame.0 (sym c.row_at.ensures.row ∙ c.in-None.is))
