use Rattle.std.proofs.lemmas.Result.{on_ok_weaker}
use Rattle.run_machine.proofs.Keeping.{fills_argument}
use Rattle.run_machine.proofs.Passing.{one_passed}
use Rattle.run_machine.proofs.control.store_argument.Goals as goal

pub returns-clause-passes : goal.returns-clause-passes
returns-clause-passes c =
    on_ok_weaker c.join.result
    (one_passed c.args.machine.now c.take-value.new.self c.put_at.new.machine c.args.object.now c.args.first c.args.number c.saturating_add.result
    c.local-place.result c.take-value.result c.put_at.result c.join.new.self c.saturating_add.ensures c.local-place.ensures
    c.take-value.ensures.rest c.take-value.ensures.room c.take-value.ensures.others c.put_at.ensures.exact c.put_at.ensures.kept
    c.put_at.ensures.rest) c.join.ensures.ok

pub returns-clause-fills : goal.returns-clause-fills
returns-clause-fills c =
    on_ok_weaker c.join.result
    (λ joined. fills_argument c.args.machine.now c.take-value.new.self c.put_at.new.machine c.join.new.self c.take-value.ensures.rest
    c.take-value.ensures.count c.put_at.ensures.rest) c.join.ensures.ok
