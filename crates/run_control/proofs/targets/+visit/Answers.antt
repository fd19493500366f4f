use Rattle.std.proofs.Common.{◌≡◌, suc, ◌+◌, ◌∙◌, ap, sym, arith}
use Rattle.std.proofs.lemmas.Result.{on_ok_weaker}
use Rattle.run_control.specs.declared.statement.Statement.TheVariants as statement
use Rattle.run_control.proofs.Forms.{at_label, at_case, at_default, at_if, at_if_only, at_block, at_do, at_for, at_switch_in, at_all, at_rest}
use Rattle.run_control.proofs.Forms.{rest_is, rest_none}
use Rattle.run_control.proofs.targets.+visit.Goals as goal

pub visit-returns-in_ok-add-in-Label : goal.visit-returns-in_ok-add-in-Label
visit-returns-in_ok-add-in-Label t c = on_ok_weaker c.visit.result
    (at_label c.args.labels _ _ _ _ _ c.args.round c.in-Label.label c.args.statement.now c.get.result c.get-in-Label.result.now
    (c.in-Label.is ∙ ap (statement.Label c.in-Label.label) (sym c.get.ensures)) (c.get-in-Label.ensures
    ∙ sym c.get.ensures) c.in_ok-add-in-Label.ensures) c.visit.ensures

pub visit-returns-in_ok-inner-in-Block : goal.visit-returns-in_ok-inner-in-Block
visit-returns-in_ok-inner-in-Block t c = on_ok_weaker c.visit_all.result
    (at_block c.args.labels _ _ _ _ _ c.args.round _ c.args.statement.now _
    c.in-Block.is c.in_ok-inner-in-Block.ensures.links c.in_ok-inner-in-Block.ensures.number) c.visit_all.ensures

pub visit-returns-in-IfOnly : goal.visit-returns-in-IfOnly
visit-returns-in-IfOnly t c = on_ok_weaker c.visit-in-IfOnly.result
    (at_if_only c.args.labels _ _ _ _ c.args.round _ c.args.statement.now c.in-IfOnly.yes _ c.in-IfOnly.is c.get-in-IfOnly.ensures) c.visit-in-IfOnly.ensures

pub visit-returns-in_ok-add_case-in-Case : goal.visit-returns-in_ok-add_case-in-Case
visit-returns-in_ok-add_case-in-Case t c = on_ok_weaker c.visit-in-Case.result
    (at_case c.args.labels _ _ _ _ _ c.args.round c.in-Case.value c.args.statement.now c.get-in-Case.result c.get-in-Case-2.result.now
    (c.in-Case.is ∙ ap (statement.Case c.in-Case.value) (sym c.get-in-Case.ensures)) (c.get-in-Case-2.ensures
    ∙ sym c.get-in-Case.ensures) c.in_ok-add_case-in-Case.ensures) c.visit-in-Case.ensures

pub visit-returns-in_ok-add-in-Default : goal.visit-returns-in_ok-add-in-Default
visit-returns-in_ok-add-in-Default t c = on_ok_weaker c.visit-in-Default.result
    (at_default c.args.labels _ _ _ _ _ c.args.round c.args.statement.now c.get-in-Default.result c.get-in-Default-2.result.now
    (c.in-Default.is ∙ ap statement.Default (sym c.get-in-Default.ensures)) (c.get-in-Default-2.ensures
    ∙ sym c.get-in-Default.ensures) c.in_ok-add-in-Default.ensures) c.visit-in-Default.ensures

pub visit-returns-in_ok-visit-in-If : goal.visit-returns-in_ok-visit-in-If
visit-returns-in_ok-visit-in-If t c = on_ok_weaker c.visit-in-If-2.result
    (at_if c.args.labels c.args.links.now.items c.visit-in-If.new.links.items c.visit-in-If-2.new.links.items c.args.found.now.items
    c.visit-in-If.new.found.items c.visit-in-If-2.new.found.items
    c.args.round c.in-If.field-0 c.args.statement.now c.in-If.yes c.in-If.no c.get-in-If.result.now c.get-in-If-2.result.now
    c.in-If.is c.get-in-If.ensures c.get-in-If-2.ensures c.in_ok-visit-in-If.ensures) c.visit-in-If-2.ensures

pub visit-returns-in_ok-inner-in-Switch : goal.visit-returns-in_ok-inner-in-Switch
visit-returns-in_ok-inner-in-Switch t c = on_ok_weaker c.visit-then-labels.result
    (at_switch_in c.args.labels c.if-labels.true c.args.links.now.items c.link-then-labels.new.links.items c.visit-then-labels.new.links.items
    c.args.found.now.items c.visit-then-labels.new.found.items
    c.args.round c.in_ok-inner-in-Switch.inner c.args.statement.now c.get-then-labels.result.now c.in-Switch.switch
    c.in-Switch.is c.get-then-labels.ensures c.in_ok-inner-in-Switch.ensures.links c.in_ok-inner-in-Switch.ensures.number) c.visit-then-labels.ensures

pub visit-returns-in_ok-inner-in-Do : goal.visit-returns-in_ok-inner-in-Do
visit-returns-in_ok-inner-in-Do t c = on_ok_weaker c.visit-in-Do.result
    (at_do c.args.labels c.args.links.now.items c.link-in-Do.new.links.items c.visit-in-Do.new.links.items c.args.found.now.items c.visit-in-Do.new.found.items
    c.args.round c.in_ok-inner-in-Do.inner c.args.statement.now c.get-in-Do.result.now _
    c.in-Do.is c.get-in-Do.ensures c.in_ok-inner-in-Do.ensures.links c.in_ok-inner-in-Do.ensures.number) c.visit-in-Do.ensures

pub visit-returns-in_ok-inner-in-For : goal.visit-returns-in_ok-inner-in-For
visit-returns-in_ok-inner-in-For t c = on_ok_weaker c.visit-in-For.result
    (at_for c.args.labels c.args.links.now.items c.link-in-For.new.links.items c.visit-in-For.new.links.items c.args.found.now.items
    c.visit-in-For.new.found.items
    c.args.round c.in_ok-inner-in-For.inner c.in-For.field-0 c.args.statement.now c.get-in-For.result.now _
    c.in-For.is c.get-in-For.ensures c.in_ok-inner-in-For.ensures.links c.in_ok-inner-in-For.ensures.number) c.visit-in-For.ensures

pub visit_all-loop-statement-init : goal.visit_all-loop-statement-init
visit_all-loop-statement-init t c = (
  c.as_slice-rest.ensures ∙ sym c.as_slice-statement-items.ensures,
  λ links found add.
      at_all c.args.labels c.args.links.now.items links c.args.found.now.items found c.args.round c.args.block.now c.as_slice-statement-items.result.now
      c.as_slice-statement-items.ensures add,
)

pub visit_all-loop-statement-preserved : goal.visit_all-loop-statement-preserved
visit_all-loop-statement-preserved t c =
    let next : c.loop-statement.statement-index + 1 ≡ suc c.loop-statement.statement-index = omega arith in
    let rest = rest_is c.as_slice-statement-items.result.now c.loop-statement.rest.now c.tail-rest.result.now c.loop-statement.statement-index _ next
    c.loop-statement.invariant.0 c.tail-rest.ensures in (
      rest,
      λ links found add. c.loop-statement.invariant.1 links found
          (at_rest c.args.labels c.loop-statement.links.items c.link.new.links.items c.visit.new.links.items links c.loop-statement.found.items
          c.visit.new.found.items found
          c.args.round c.in_ok-inner.inner c.loop-statement.statement-index _ c.as_slice-statement-items.result.now c.statement-item.result c.tail-rest.result
          next c.loop-statement-test.true c.statement-item.is rest c.in_ok-inner.ensures.links c.in_ok-inner.ensures.number c.in_ok-visit.ensures add),
    )

pub visit_all-returns : goal.visit_all-returns
visit_all-returns t c = c.loop-statement.invariant.1 c.loop-statement.links.items c.loop-statement.found.items
    (rest_none c.args.labels c.loop-statement.links.items c.loop-statement.found.items c.args.round c.loop-statement.statement-index
    c.as_slice-statement-items.result.now c.loop-statement-test.false)
