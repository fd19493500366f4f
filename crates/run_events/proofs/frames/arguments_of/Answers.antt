use Rattle.std.proofs.Common.{◌≤◌, ◌∙◌, List, ap, length, slice_get, subst, sym}
use Rattle.std.proofs.lemmas.Option.{slice_get-get_or}
use Rattle.run_layout.specs.declared.steps.Operand.{Operand}
use Rattle.run_events.proofs.Library.{all_of_them, none_first, one_more}
use Rattle.run_events.proofs.frames.arguments_of.Goals as goal

pub loop-operand-init : goal.loop-operand-init
loop-operand-init c = none_first c.args.machine.now c.args.call.now.arguments.items c.new-arguments.result c.new-arguments.ensures

pub loop-operand-preserved : goal.loop-operand-preserved
loop-operand-preserved c =
    one_more c.args.machine.now c.args.call.now.arguments.items c.loop-operand.operand-index c.loop-operand.arguments c.push.new.self _
    c.in_ok-value.field-0 c.loop-operand.invariant
    (ap (λ (os : List Operand). slice_get os c.loop-operand.operand-index) (sym c.as_slice-operand-items.ensures.value)
    ∙ slice_get-get_or c.as_slice-operand-items.result.now c.loop-operand.operand-index _ c.loop-operand-test.true) c.in_ok-value.ensures
    c.in_ok-push.ensures.ok

pub returns : goal.returns
returns c =
    all_of_them c.args.machine.now c.args.call.now.arguments.items c.loop-operand.operand-index c.loop-operand.arguments
    (subst (λ (os : List Operand). length os ≤ c.loop-operand.operand-index) c.as_slice-operand-items.ensures.value c.loop-operand-test.false)
    c.loop-operand.invariant
