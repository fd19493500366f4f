use Rattle.std.proofs.Common.{suc, arith, refl}
use Rattle.run_machine.proofs.Leaving.{as_many, none_died, one_more}
use Rattle.run_machine.proofs.control.leave.Goals as goal

pub loop-object-init : goal.loop-object-init
loop-object-init c = record { work = refl; died = none_died c.args.machine.now _ }

pub loop-object-preserved : goal.loop-object-preserved
loop-object-preserved c = record {
  work = c.loop-object.invariant.work;
  died = as_many c.args.machine.now _ _ (suc c.loop-object.object) _ (omega arith)
      (one_more c.args.machine.now c.loop-object.machine _ c.loop-object.object c.saturating_add.result c.kill.new.self c.kill.new.t c.join.new.self
      c.in_ok-name.name
      c.loop-object.invariant.died c.saturating_add.ensures c.in_ok-name.ensures c.kill.ensures.kept c.kill.ensures.rest c.kill.ensures.exact
      c.in_ok-join.ensures.ok);
}

pub returns-clause-lives : goal.returns-clause-lives
returns-clause-lives c =
    (_, c.in_ok-block.ensures.at, as_many c.args.machine.now c.loop-object.machine _ c.loop-object.object _ (omega arith) c.loop-object.invariant.died)
