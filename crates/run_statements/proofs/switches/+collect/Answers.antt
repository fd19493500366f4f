use Rattle.std.proofs.lemmas.Result.{on_ok_weaker}
use Rattle.run_statements.proofs.Gathering.{
  gather_all,
  gather_block,
  gather_case,
  gather_default,
  gather_do,
  gather_first,
  gather_for,
  gather_if,
  gather_if_only,
  gather_label,
  gather_next,
  gather_simple,
  gather_switch,
}
use Rattle.run_statements.proofs.switches.+collect.Goals as goal

pub switches_in-loop-statement-init : goal.switches_in-loop-statement-init
switches_in-loop-statement-init t c = gather_first c.args.statements.now c.args.found.now.items

pub switches_in-loop-statement-preserved : goal.switches_in-loop-statement-preserved
switches_in-loop-statement-preserved t c =
    gather_next c.args.statements.now c.loop-statement.statement-index c.statement-item.result c.args.found.now.items c.loop-statement.found.items
    c.switches_of.new.found.items c.loop-statement-test.true c.statement-item.is c.loop-statement.invariant c.in_ok-switches_of.ensures

pub switches_in-returns : goal.switches_in-returns
switches_in-returns t c =
    gather_all c.args.statements.now c.loop-statement.statement-index c.args.found.now.items c.loop-statement.found.items c.loop-statement-test.false
    c.loop-statement.invariant

pub switches_of-returns-in-Block : goal.switches_of-returns-in-Block
switches_of-returns-in-Block t c = on_ok_weaker c.switches_in.result
    (gather_block c.args.statement.now c.in-Block.block c.as_slice.result.now c.args.found.now.items c.switches_in.new.found.items c.in-Block.is
    c.as_slice.ensures) c.switches_in.ensures

pub switches_of-returns-in_ok-switches_of-in-If : goal.switches_of-returns-in_ok-switches_of-in-If
switches_of-returns-in_ok-switches_of-in-If t c = on_ok_weaker c.switches_of-in-If.result
    (gather_if c.args.statement.now c.in-If.field-0 c.in-If.yes c.in-If.no c.get.result.now c.get-in-If.result.now c.args.found.now.items
    c.switches_of.new.found.items c.switches_of-in-If.new.found.items c.in-If.is c.get.ensures c.get-in-If.ensures c.in_ok-switches_of-in-If.ensures)
    c.switches_of-in-If.ensures

pub switches_of-returns-in_ok-push-in-Switch : goal.switches_of-returns-in_ok-push-in-Switch
switches_of-returns-in_ok-push-in-Switch t c = on_ok_weaker c.switches_of-in-Switch.result
    (gather_switch c.args.statement.now c.get-in-Switch.result.now _ c.args.found.now.items c.push.new.self.items
    c.switches_of-in-Switch.new.found.items c.in-Switch.is c.get-in-Switch.ensures c.in_ok-push-in-Switch.ensures.items) c.switches_of-in-Switch.ensures

pub switches_of-returns-in-Do : goal.switches_of-returns-in-Do
switches_of-returns-in-Do t c = on_ok_weaker c.switches_of-in-Do.result
    (gather_do c.args.statement.now _ c.get-in-Do.result.now c.args.found.now.items c.switches_of-in-Do.new.found.items c.in-Do.is c.get-in-Do.ensures)
    c.switches_of-in-Do.ensures

pub switches_of-returns-in-For : goal.switches_of-returns-in-For
switches_of-returns-in-For t c = on_ok_weaker c.switches_of-in-For.result
    (gather_for c.args.statement.now c.in-For.field-0 _ c.get-in-For.result.now c.args.found.now.items c.switches_of-in-For.new.found.items c.in-For.is
    c.get-in-For.ensures) c.switches_of-in-For.ensures

pub switches_of-returns-in-IfOnly : goal.switches_of-returns-in-IfOnly
switches_of-returns-in-IfOnly t c = on_ok_weaker c.switches_of-in-IfOnly.result
    (gather_if_only c.args.statement.now c.in-IfOnly.field-0 c.in-IfOnly.inner c.get-in-IfOnly.result.now c.args.found.now.items
    c.switches_of-in-IfOnly.new.found.items c.in-IfOnly.is c.get-in-IfOnly.ensures) c.switches_of-in-IfOnly.ensures

pub switches_of-returns-in-Label : goal.switches_of-returns-in-Label
switches_of-returns-in-Label t c = on_ok_weaker c.switches_of-in-Label.result
    (gather_label c.args.statement.now c.in-Label.field-0 c.in-Label.inner c.get-in-Label.result.now c.args.found.now.items
    c.switches_of-in-Label.new.found.items c.in-Label.is c.get-in-Label.ensures) c.switches_of-in-Label.ensures

pub switches_of-returns-in-Case : goal.switches_of-returns-in-Case
switches_of-returns-in-Case t c = on_ok_weaker c.switches_of-in-Case.result
    (gather_case c.args.statement.now c.in-Case.field-0 c.in-Case.inner c.get-in-Case.result.now c.args.found.now.items
    c.switches_of-in-Case.new.found.items c.in-Case.is c.get-in-Case.ensures) c.switches_of-in-Case.ensures

pub switches_of-returns-in-Default : goal.switches_of-returns-in-Default
switches_of-returns-in-Default t c = on_ok_weaker c.switches_of-in-Default.result
    (gather_default c.args.statement.now c.in-Default.inner c.get-in-Default.result.now c.args.found.now.items c.switches_of-in-Default.new.found.items
    c.in-Default.is c.get-in-Default.ensures) c.switches_of-in-Default.ensures

pub switches_of-returns-in-Value : goal.switches_of-returns-in-Value
switches_of-returns-in-Value t c = gather_simple c.args.statement.now c.args.found.now.items c.in-Value.is

pub switches_of-returns-in-Value-2 : goal.switches_of-returns-in-Value-2
switches_of-returns-in-Value-2 t c = gather_simple c.args.statement.now c.args.found.now.items c.in-Value.is

pub switches_of-returns-in-Value-3 : goal.switches_of-returns-in-Value-3
switches_of-returns-in-Value-3 t c = gather_simple c.args.statement.now c.args.found.now.items c.in-Value.is

pub switches_of-returns-in-Value-4 : goal.switches_of-returns-in-Value-4
switches_of-returns-in-Value-4 t c = gather_simple c.args.statement.now c.args.found.now.items c.in-Value.is

pub switches_of-returns-in-Value-5 : goal.switches_of-returns-in-Value-5
switches_of-returns-in-Value-5 t c = gather_simple c.args.statement.now c.args.found.now.items c.in-Value.is

pub switches_of-returns-in-Value-6 : goal.switches_of-returns-in-Value-6
switches_of-returns-in-Value-6 t c = gather_simple c.args.statement.now c.args.found.now.items c.in-Value.is

pub switches_of-returns-in-Value-7 : goal.switches_of-returns-in-Value-7
switches_of-returns-in-Value-7 t c = gather_simple c.args.statement.now c.args.found.now.items c.in-Value.is

pub switches_of-returns-in-Value-8 : goal.switches_of-returns-in-Value-8
switches_of-returns-in-Value-8 t c = gather_simple c.args.statement.now c.args.found.now.items c.in-Value.is
