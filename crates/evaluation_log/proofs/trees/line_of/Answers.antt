use Rattle.std.proofs.Common.{sym, ap, ◌∙◌}
use Rattle.c_typed.specs.declared.tree.Typed.{out-Typed}
use Rattle.evaluation_log.specs.Ruled.{lines_of}
use Rattle.evaluation_log.proofs.RuledLemmas.{line_from, sought-get}
use Rattle.evaluation_log.proofs.trees.line_of.Goals as goal

pub returns-in-Ok : goal.returns-in-Ok
returns-in-Ok c =
    let line = (out-Typed c.args.root.now).line in
    ap (line_from line) (sym c.in-Ok.is ∙ c.seek_line.ensures) ∙ sought-get (lines_of c.args.root.now) line c.args.node

pub returns-in-Err : goal.returns-in-Err
returns-in-Err c =
    let line = (out-Typed c.args.root.now).line in
    ap (line_from line) (sym c.in-Err.is ∙ c.seek_line.ensures) ∙ sought-get (lines_of c.args.root.now) line c.args.node
