-- One call after the other.
use Rattle.std.proofs.Common.{◌∙◌, ap, length, sym}
use Rattle.certificate_making.specs.Marking.{claim_frames, mark_all, mark_starters, row_frames}
use Rattle.certificate_making.proofs.Marks.{mark_all-append}
use Rattle.certificate_making.proofs.keep.mark_needed.Goals as goal

pub returns : goal.returns
returns c =
    let claimed = claim_frames c.args.claim.now in
    c.mark_starters.ensures
    ∙ ap (mark_starters c.args.frames.now (length c.args.frames.now))
    (c.mark_claim.ensures
    ∙ (ap (λ marks. mark_all marks claimed) c.mark_rows.ensures ∙ sym (mark_all-append c.args.marks.now (row_frames c.args.rows.now) claimed)))
