use Rattle.std.proofs.Common.{◌≡◌, length, Some, refl, ◌∙◌, ap, slice_get}
use Rattle.std.proofs.lemmas.Option.{slice_get_read}
use Rattle.run_layout.specs.declared.steps.Listed.TheVariants as listed
use Rattle.seq_order.specs.Marked.{taken_in}
use Rattle.run_listing.proofs.Walked.{event_at, operand_at}
use Rattle.run_listing.proofs.along.next.Goals as goal

pub returns-in-Event : goal.returns-in-Event
returns-in-Event c =
    let found = c.in-Some.ensures.lookup in
    let there : slice_get c.args.entries.now c.loop-entry.at ≡ Some (listed.Event c.in-Event.due) =
    slice_get_read c.args.entries.now (length c.args.entries.now) c.loop-entry.at c.in-Some.entry.now refl found.3.0 found.1 ∙ ap Some c.in-Event.is in (
      there,
      event_at (taken_in c.args.taken.now) c.args.entries.now c.loop-entry.at c.in-Event.due there c.loop-entry.invariant,
    )

pub loop-entry-preserved : goal.loop-entry-preserved
loop-entry-preserved c =
    let found = c.in-Some.ensures.lookup in
    let there : slice_get c.args.entries.now c.loop-entry.at ≡ Some (listed.Operand c.in-Operand.node c.in-Operand.operand c.in-Operand.count) =
    slice_get_read c.args.entries.now (length c.args.entries.now) c.loop-entry.at c.in-Some.entry.now refl found.3.0 found.1 ∙ ap Some c.in-Operand.is in
    operand_at (taken_in c.args.taken.now) c.args.entries.now c.loop-entry.at c.in-Operand.node c.in-Operand.operand c.in-Operand.count c.skipped.result
    c.behind_operand-at.result there c.skipped.ensures c.behind_operand-at.ensures c.loop-entry.invariant
