use Rattle.std.proofs.Common.{◌∙◌, ap}
use Rattle.run_state.specs.declared.machine.Machine.{Machine}
use Rattle.run_events.proofs.Chosen.{chooses_some, on_ok}
use Rattle.run_events.proofs.choices.choose.Goals as goal

pub returns : goal.returns
returns c = record {
  chosen = on_ok c.choose_at_once.result _ _ c.choose_at_once.ensures.chosen
      (chooses_some c.args.code.now c.args.number c.args.machine.now c.choice-choice.result.now c.way.result.0 c.truth.result c.choice-choice.ensures
      c.way.ensures.way c.truth.ensures c.take_operand.new.machine c.choose_at_once.new.machine c.in-Some.operand c.way.result.1.now c.in-Some.is
      c.way.ensures.chosen c.in_ok-take_operand.ensures.chosen);
  rest = on_ok c.choose_at_once.result _ _ c.choose_at_once.ensures.chosen
      (λ h. h.rest ∙ ap (λ (k : Machine). record k { begun = c.choose_at_once.new.machine.begun }) c.in_ok-take_operand.ensures.chosen.rest);
}
