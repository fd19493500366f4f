use Rattle.run_machine.proofs.Strayed.{along_way, listed_off}
use Rattle.run_machine.proofs.picks.follow.Goals as goal

pub returns-then-not-stage-clause-listed : goal.returns-then-not-stage-clause-listed
returns-then-not-stage-clause-listed c =
    listed_off c.args.machine.now c.in-Some.stage c.strayed_next.result c.in-Some.is c.strayed_next.ensures.listed

pub returns-clause-listed : goal.returns-clause-listed
returns-clause-listed c = along_way c.args.machine.now c.in-Some.stage c.in-Some-2.due.now c.in-Some.is c.if-not-stage.false
