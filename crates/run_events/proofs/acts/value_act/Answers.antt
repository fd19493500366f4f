use Rattle.run_events.proofs.Valued.{only_pointers}
use Rattle.run_events.proofs.acts.value_act.Goals as goal

pub returns-in_default-clause-exact : goal.returns-in_default-clause-exact
returns-in_default-clause-exact c = λ can given gives.
    c.pointer_act.ensures.exact can given
    (only_pointers c.args.act.now c.in_default.not-Load c.in_default.not-Same c.in_default.not-Binary c.in_default.not-Convert c.in_default.not-Unary
    c.in_default.not-Logical c.in_default.not-Selected c.in_default.not-Change c.in_default.not-Answer c.in_default.not-Part gives)
