use Rattle.std.proofs.Common.{◌∙◌, ap, refl}
use Rattle.std.proofs.lemmas.Option.{slice_get-get_or}
use Rattle.run_state.specs.declared.machine.Machine.{Machine}
use Rattle.run_events.proofs.Passing.{all_passed, none_passed, one_passed}
use Rattle.run_events.proofs.frames.pass_arguments.Goals as goal

pub loop-operand-init : goal.loop-operand-init
loop-operand-init c = record {
  rest = c.grow.ensures.rest;
  passes = none_passed c.args.machine.now c.grow.new.self c.args.operands.now c.args.room c.saturating_add.result c.args.room refl
      c.saturating_add.ensures c.in_ok-grow.ensures.count c.grow.ensures.fewest c.grow.ensures.kept;
}

pub loop-operand-preserved : goal.loop-operand-preserved
loop-operand-preserved c = record {
  rest = c.put.ensures.rest ∙ ap (λ (k : Machine). record k { values = c.put.new.self.values }) c.loop-operand.invariant.rest;
  passes = one_passed c.args.machine.now c.loop-operand.machine c.put.new.self c.args.operands.now c.args.room c.loop-operand.operand-index
      c.loop-operand.at c.saturating_add-at.result _ c.in_ok-value.value c.loop-operand.invariant.rest c.loop-operand.invariant.passes
      (slice_get-get_or c.args.operands.now c.loop-operand.operand-index _ c.loop-operand-test.true) c.loop-operand-test.true c.in_ok-value.ensures
      c.saturating_add-at.ensures c.put.ensures.count c.put.ensures.room c.put.ensures.others;
}

pub returns-clause-passes : goal.returns-clause-passes
returns-clause-passes c =
    all_passed c.args.machine.now c.loop-operand.machine c.args.operands.now c.args.room c.loop-operand.operand-index c.loop-operand.at
    c.loop-operand-test.false c.loop-operand.invariant.passes
