use Rattle.std.proofs.Common.{sym, ap, ◌∙◌}
use Rattle.static_places.specs.Preorder.{nodes_of}
use Rattle.static_places.proofs.Preordered.{answer, sought-get}
use Rattle.static_places.proofs.places.fixed.Goals as goal

pub returns-in-Ok : goal.returns-in-Ok
returns-in-Ok c =
    ap (answer c.args.p.now c.args.function) (sym c.in-Ok.is ∙ c.seek.ensures)
    ∙ sought-get c.args.p.now c.args.function (nodes_of c.args.root.now) c.args.node

pub returns-in-Err : goal.returns-in-Err
returns-in-Err c =
    ap (answer c.args.p.now c.args.function) (sym c.in-Err.is ∙ c.seek.ensures)
    ∙ sought-get c.args.p.now c.args.function (nodes_of c.args.root.now) c.args.node
