use Rattle.std.proofs.Common.{ap}
use Rattle.std.proofs.lemmas.Result.{on_ok_weaker}
use Rattle.run_state.specs.declared.machine.Machine.{Machine}
use Rattle.run_machine.proofs.events.choose_at.Goals as goal

pub returns-in-Some-clause-memory : goal.returns-in-Some-clause-memory
returns-in-Some-clause-memory c = on_ok_weaker c.choose.result (ap (λ (k : Machine). k.memory)) c.choose.ensures.rest
