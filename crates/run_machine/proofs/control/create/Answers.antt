use Rattle.run_machine.proofs.Births.{one_new}
use Rattle.run_machine.proofs.Keeping.{fills_created}
use Rattle.run_machine.proofs.control.create.Goals as goal

pub returns-clause-creates : goal.returns-clause-creates
returns-clause-creates c =
    one_new c.args.machine.now c.place.new.machine c.args.object.now c.args.first c.args.number c.saturating_add.result c.in_ok-addr.addr c.create.new.self
    c.create.new.t c.join.new.self _ _ c.in_ok-shape.ensures.shape c.in_ok-shape.ensures.form c.saturating_add.ensures c.in_ok-addr.ensures.born
    c.in_ok-addr.ensures.exact (c.create.ensures.kept (λ e. absurd (cc))) c.in_ok-addr.ensures.whole c.place.ensures.rest c.in_ok-place.ensures.placed
    c.place.ensures.others c.in_ok-join.ensures.ok

pub returns-clause-fills : goal.returns-clause-fills
returns-clause-fills c =
    fills_created c.args.machine.now c.place.new.machine c.create.new.self c.create.new.t c.join.new.self c.place.ensures.rest c.place.ensures.count
