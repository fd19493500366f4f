-- One more entry, and all of them.
use Rattle.std.proofs.Common.{◌≡◌, Some, slice_get, sym, subst, arith}
use Rattle.std.proofs.lemmas.Option.{get_or_from_slice_get}
use Rattle.certificate_writing.specs.Writing.{frame_entry}
use Rattle.certificate_writing.proofs.Entries.{array_of, grown}
use Rattle.certificate_writing.proofs.write.frames_value.Goals as goal

pub loop-at-preserved : goal.loop-at-preserved
loop-at-preserved c =
    let there : slice_get c.args.frames.now c.loop-at.at ≡ Some c.row-row.result =
    subst (λ i. slice_get c.args.frames.now i ≡ Some c.row-row.result) (omega arith) c.row-row.ensures.row in
    grown frame_entry c.args.frames.now c.loop-at.at _ c.row-row.result c.loop-at.items.items c.push.new.self.items c.in_ok-frame_value.field-0
    c.loop-at.invariant (omega (arith, c.len-at-end.ensures.count)) (omega arith)
    (sym (get_or_from_slice_get c.args.frames.now c.loop-at.at c.row-row.result c.row-row.result there))
    c.in_ok-frame_value.ensures c.in_ok-push.ensures.items

pub returns : goal.returns
returns c = array_of frame_entry c.args.frames.now c.loop-at.at c.loop-at.items c.loop-at.invariant (omega (arith, c.len-at-end.ensures.count))
