use Rattle.std.proofs.Common.{◌∙◌, refl, sym, subst, List, ℕ}
use Rattle.std.proofs.lemmas.List.{take_all, take_more}
use Rattle.run_answers.specs.Choices.{HasChosen}
use Rattle.run_events.proofs.Chosen.{none_chosen, one_more}
use Rattle.run_events.proofs.choices.choose_at_once.Goals as goal

pub loop-node-init : goal.loop-node-init
loop-node-init c = record { work = refl; chosen = none_chosen c.args.machine.now }

pub loop-node-preserved : goal.loop-node-preserved
loop-node-preserved c = record {
  work = c.in_ok-take_operand.ensures.work ∙ c.loop-node.invariant.work;
  chosen = subst (λ (l : List (ℕ × ℕ)). HasChosen c.args.machine.now l c.take_operand.new.machine)
      (sym (take_more c.args.chosen.now c.loop-node.node-index _ c.loop-node-test.true))
      (one_more c.args.machine.now c.loop-node.machine c.take_operand.new.machine _ _ c.loop-node.invariant.chosen c.in_ok-take_operand.ensures.chosen);
}

pub returns-clause-chosen : goal.returns-clause-chosen
returns-clause-chosen c =
    subst (λ (l : List (ℕ × ℕ)). HasChosen c.args.machine.now l c.loop-node.machine)
    (take_all c.loop-node.node-index c.args.chosen.now c.loop-node-test.false) c.loop-node.invariant.chosen
