use Rattle.std.proofs.Common.{length, map, sym, ap, ◌∙◌, arith, rules}
use Rattle.c_types.specs.Types.{params_of, qualified_of}
use Rattle.type_operands.specs.Terms.{term_of, expression_of}
use Rattle.type_calls.specs.Calls.{operands}
use Rattle.type_calls.proofs.Lists.{started, argument_taken, argument_refused, arguments_missing, arguments_taken}
use Rattle.type_calls.proofs.choose.with_arguments.Goals as goal
use Rattle.type_operands.specs.Layouts.{layouts}

pub loop-operand-init : goal.loop-operand-init
loop-operand-init c = (started _ _ _ _ c.in_ok-push.ensures.ok c.new-children.ensures, cc)

pub loop-operand-preserved : goal.loop-operand-preserved
loop-operand-preserved c =
    let at = c.loop-operand in
    let steps = c.in-Some.ensures.steps in (
      argument_taken _ _ _ _ at.children _ c.in_ok-argument.field-0 _ c.in-Some.operand _ _ at.invariant.0 steps.0 c.in_ok-argument.ensures
          c.in_ok-push-2.ensures.ok c.further-left.ensures,
      let was = at.invariant.1 in
          let gone = steps.1 in
          let short = ap length steps.0 in
          omega arith,
    )

pub returns-in_err-argument : goal.returns-in_err-argument
returns-in_err-argument c =
    let at = c.loop-operand in
    let all = ap (λ z. operands (layouts c.args.tags.now) (term_of c.args.designator) c.args.variadic (params_of (map qualified_of c.args.params.now))
    (map expression_of z)) c.into_iter-operand-iterator.ensures.into_iter_gives.0 in
    let h = argument_refused (layouts c.args.tags.now) c.args.variadic _ at.children _ c.in-Some.operand _ _ _ c.in_err-argument.field-0.0 at.invariant.0
    c.in-Some.ensures.steps.0 all c.in_err-argument.ensures in search rules

pub returns-in-Some-split_first : goal.returns-in-Some-split_first
returns-in-Some-split_first c =
    let at = c.loop-operand in
    let all = ap (λ z. operands (layouts c.args.tags.now) (term_of c.args.designator) c.args.variadic (params_of (map qualified_of c.args.params.now))
    (map expression_of z)) c.into_iter-operand-iterator.ensures.into_iter_gives.0 in
    arguments_missing (layouts c.args.tags.now) c.args.variadic at.left.now at.children _ _ _ _ _ at.invariant.0
    (sym at.invariant.1 ∙ c.in-None.ensures.steps.0) all c.in-Some-split_first.ensures.cases.0

pub returns-in-None-split_first : goal.returns-in-None-split_first
returns-in-None-split_first c =
    let at = c.loop-operand in
    let all = ap (λ z. operands (layouts c.args.tags.now) (term_of c.args.designator) c.args.variadic (params_of (map qualified_of c.args.params.now))
    (map expression_of z)) c.into_iter-operand-iterator.ensures.into_iter_gives.0 in
    arguments_taken (layouts c.args.tags.now) c.args.variadic at.left.now at.children _ _ _ at.invariant.0 (sym at.invariant.1 ∙ c.in-None.ensures.steps.0)
    all c.in-None-split_first.ensures.cases
