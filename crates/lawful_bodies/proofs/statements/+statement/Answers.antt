use Rattle.std.proofs.Common.{arith, ◌<◌}
use Rattle.std.proofs.lemmas.Result.{on_ok_weaker}
use Rattle.lawful_bodies.proofs.Forms.{after_if, after_for, after_label, after_case, entry_found_more, entry_declared_more, block_found_all}
use Rattle.lawful_bodies.proofs.statements.+statement.Goals as goal

pub statement-returns-in_ok-loop_start-in-For : goal.statement-returns-in_ok-loop_start-in-For
statement-returns-in_ok-loop_start-in-For t c =
    let h = c.in-For in
    on_ok_weaker c.statement-in-For.result
    (after_for c.args.tags.now c.args.inside c.args.found.now c.loop_start.new.found c.statement-in-For.new.found _ c.args.body.now h.start h.test h.step
    h.body c.get-in-For.result.now h.is c.get-in-For.ensures c.in_ok-loop_start-in-For.ensures)
    c.statement-in-For.ensures

pub statement-returns-in_ok-add_label-in-Label : goal.statement-returns-in_ok-add_label-in-Label
statement-returns-in_ok-add_label-in-Label t c =
    let h = c.in-Label in
    on_ok_weaker c.statement-in-Label.result
    (after_label c.args.tags.now c.args.inside c.args.found.now c.add_label.new.found c.statement-in-Label.new.found c.args.body.now h.label h.body
    c.get-in-Label.result.now h.is c.get-in-Label.ensures c.in_ok-add_label-in-Label.ensures)
    c.statement-in-Label.ensures

pub statement-returns-in_ok-add_case-in-Case : goal.statement-returns-in_ok-add_case-in-Case
statement-returns-in_ok-add_case-in-Case t c =
    let h = c.in-Case in
    on_ok_weaker c.statement-in-Case.result
    (after_case c.args.tags.now c.args.inside c.args.found.now c.add_case.new.found c.statement-in-Case.new.found c.args.body.now h.value h.body
    c.get-in-Case.result.now h.is c.get-in-Case.ensures c.in_ok-add_case-in-Case.ensures)
    c.statement-in-Case.ensures

pub statement-returns-in-Some : goal.statement-returns-in-Some
statement-returns-in-Some t c =
    let h = c.in-If in
    let k = c.in-Some in
    on_ok_weaker c.statement-in-Some.result
    (after_if c.args.tags.now c.args.inside c.args.found.now c.statement.new.found c.statement-in-Some.new.found c.args.body.now h.field-0 h.yes k.no
    c.get.result.now c.get-in-Some.result.now h.no h.is k.is c.get.ensures c.get-in-Some.ensures c.in_ok-statement-in-If.ensures)
    c.statement-in-Some.ensures

pub block_items-loop-entry-preserved : goal.block_items-loop-entry-preserved
block_items-loop-entry-preserved t c =
    let items = c.as_slice-entry-items.result.now in
    let i = c.loop-entry.entry-index in
    let x = c.entry-item.result in
    record {
      found = entry_found_more c.args.tags.now c.args.inside c.begin_block.new.found c.loop-entry.found c.block_item.new.found items i x _
          (omega arith) c.entry-item.is c.loop-entry.invariant.found c.in_ok-block_item.ensures.found;
      declared = entry_declared_more (λ decl. decl < c.len-objects.result) items i x _ (omega arith) c.entry-item.is c.loop-entry.invariant.declared
          c.in_ok-block_item.ensures.declared;
    }

pub block_items-returns : goal.block_items-returns
block_items-returns t c =
    let h = c.in_ok-begin_block.ensures in
    block_found_all c.args.tags.now c.args.inside c.args.found.now c.begin_block.new.found c.loop-entry.found c.args.block.now c.as_slice.result.now
    c.as_slice-entry-items.result.now c.loop-entry.entry-index c.len-objects.result
    c.as_slice.ensures c.as_slice-entry-items.ensures c.loop-entry-test.false c.len-objects.ensures
    h.number h.found h.sized h.few c.loop-entry.invariant.found c.loop-entry.invariant.declared
