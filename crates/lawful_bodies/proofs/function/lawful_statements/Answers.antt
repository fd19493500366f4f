use Rattle.std.proofs.Common.{refl}
use Rattle.c_typed.specs.Sites.{summary}
use Rattle.lawful_bodies.proofs.Follow.{statements}
use Rattle.lawful_bodies.proofs.function.lawful_statements.Goals as goal

pub returns : goal.returns
returns c =
    let h = c.in_ok-nothing_open.ensures in
    statements c.args.tags.now _ _ c.statement.new.found (summary c.args.body.now) c.in_ok-statement.ensures
    refl c.new.ensures c.new-2.ensures c.new-3.ensures refl refl refl h.no_case h.no_default h.distinct h.defined h.few
