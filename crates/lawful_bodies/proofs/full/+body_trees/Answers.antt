use Rattle.std.proofs.Common.{rules, arith, ap, ◌∙◌, ◌≡◌, take, length}
use Rattle.std.proofs.lemmas.Result.{on_ok_weaker}
use Rattle.c_types.specs.Types.{signature_of}
use Rattle.lawful_bodies.proofs.Pass.{after_if, after_do, after_for, entry_more, entries_all}
use Rattle.lawful_bodies.proofs.full.+body_trees.Goals as goal

pub body_trees-returns-in-Some : goal.body_trees-returns-in-Some
body_trees-returns-in-Some t c =
    let h = c.in-If in
    let k = c.in-Some in
    on_ok_weaker c.body_trees-in-Some.result
    (after_if c.args.program.now (signature_of c.args.owner.now) c.args.place.now c.full.new.place c.body_trees.new.place c.body_trees-in-Some.new.place
    c.args.body.now h.test h.yes k.no c.get.result.now c.get-in-Some.result.now h.no h.is k.is c.get.ensures c.get-in-Some.ensures c.in_ok-full-in-If.ensures
    c.in_ok-body_trees-in-If.ensures)
    c.body_trees-in-Some.ensures

pub body_trees-returns-in_ok-body_trees-in-Do : goal.body_trees-returns-in_ok-body_trees-in-Do
body_trees-returns-in_ok-body_trees-in-Do t c =
    let h = c.in-Do in
    on_ok_weaker c.full-in-Do.result
    (after_do c.args.program.now (signature_of c.args.owner.now) c.args.place.now c.body_trees-in-Do.new.place c.full-in-Do.new.place
    c.args.body.now h.body c.get-in-Do.result.now h.test h.is c.get-in-Do.ensures c.in_ok-body_trees-in-Do.ensures)
    c.full-in-Do.ensures

pub body_trees-returns-in_ok-body_trees-in-For : goal.body_trees-returns-in_ok-body_trees-in-For
body_trees-returns-in_ok-body_trees-in-For t c =
    let h = c.in-For in
    let outer : c.len-outer-in-For.result ≡ length c.args.place.now.around.items = search rules in
    after_for c.args.program.now (signature_of c.args.owner.now) c.args.place.now c.start_trees.new.place c.perhaps_full-in-For.new.place
    c.perhaps_full-in-For-2.new.place c.body_trees-in-For.new.place c.close_blocks-in-For.new.place
    c.args.body.now h.start h.test h.step h.body c.get-in-For.result.now h.is c.get-in-For.ensures
    c.in_ok-start_trees-in-For.ensures c.in_ok-perhaps_full-in-For.ensures c.in_ok-perhaps_full-in-For-2.ensures c.in_ok-body_trees-in-For.ensures
    (c.close_blocks-in-For.ensures.around ∙ ap (λ n. take n c.body_trees-in-For.new.place.around.items) outer) c.close_blocks-in-For.ensures.count

pub enter_block-loop-entry-preserved : goal.enter_block-loop-entry-preserved
enter_block-loop-entry-preserved t c =
    entry_more c.args.program.now (signature_of c.args.owner.now) c.open_block.new.place c.loop-entry.place c.entry_trees.new.place
    c.as_slice-entry-items.result.now c.loop-entry.entry-index c.entry-item.result _ (omega arith) c.entry-item.is c.loop-entry.invariant
    c.in_ok-entry_trees.ensures

pub enter_block-returns : goal.enter_block-returns
enter_block-returns t c =
    let h = c.in_ok-open_block.ensures in
    entries_all c.args.program.now (signature_of c.args.owner.now) c.args.place.now c.open_block.new.place c.loop-entry.place c.args.block.now
    c.as_slice-entry-items.result.now c.loop-entry.entry-index c.as_slice-entry-items.ensures c.loop-entry-test.false h.kept h.blocks h.count
    c.loop-entry.invariant
