use Rattle.std.proofs.Common.{length, map, sym, ap, ◌∙◌, arith, rules}
use Rattle.type_operands.specs.Terms.{expression_of}
use Rattle.type_calls.specs.Choices.{without_values}
use Rattle.type_calls.proofs.Lists.{begun, value_dropped, drop_refused, values_dropped}
use Rattle.type_calls.proofs.choose.without_values.Goals as goal
use Rattle.type_operands.specs.Layouts.{layouts}

pub loop-operand-init : goal.loop-operand-init
loop-operand-init c = (begun _ _ c.new-children.ensures, cc)

pub loop-operand-preserved : goal.loop-operand-preserved
loop-operand-preserved c =
    let at = c.loop-operand in
    let steps = c.in-Some.ensures.steps in (
      value_dropped _ at.children _ c.in_ok-discarded.field-0 _ c.in-Some.operand _ _ at.invariant.0 steps.0 c.in_ok-discarded.ensures c.in_ok-push.ensures.ok,
      let was = at.invariant.1 in
          let gone = steps.1 in
          let short = ap length steps.0 in
          omega arith,
    )

pub returns-in_err-discarded : goal.returns-in_err-discarded
returns-in_err-discarded c =
    let at = c.loop-operand in
    let all = ap (λ z. without_values (layouts c.args.tags.now) (map expression_of z)) c.into_iter-operand-iterator.ensures.into_iter_gives.0 in
    let h = drop_refused (layouts c.args.tags.now) at.children _ c.in-Some.operand _ _ _ c.in_err-discarded.field-0.0 at.invariant.0 c.in-Some.ensures.steps.0
    all c.in_err-discarded.ensures in search rules

pub returns : goal.returns
returns c =
    let at = c.loop-operand in
    let all = ap (λ z. without_values (layouts c.args.tags.now) (map expression_of z)) c.into_iter-operand-iterator.ensures.into_iter_gives.0 in
    values_dropped (layouts c.args.tags.now) at.children _ _ _ at.invariant.0 (sym at.invariant.1 ∙ c.in-None.ensures.steps.0) all
