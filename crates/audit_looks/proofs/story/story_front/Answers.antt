use Rattle.std.proofs.Common.{subst}
use Rattle.audit_looks.proofs.Reports.{refused_by}
use Rattle.audit_looks.proofs.Stories.{program_front, refused_front}
use Rattle.audit_looks.specs.Looks.{IsRefused}
use Rattle.audit_verdict.specs.Answer.{IsRunnable}
use Rattle.audit_looks.proofs.story.story_front.Goals as goal

pub returns-in-Ok : goal.returns-in-Ok
returns-in-Ok c =
    program_front (c.args.frames.now, c.args.object.now) c.args.sources.now.text c.in-Ok.program c.entries_of.result
    (subst (λ text. IsRunnable text c.in-Ok.program) c.as_slice.ensures c.in-Ok.ensures.read) c.entries_of.ensures

pub returns-in-Err-Refused : goal.returns-in-Err-Refused
returns-in-Err-Refused c =
    refused_front (c.args.frames.now, c.args.object.now) c.args.sources.now.text c.from_slice.result
    (subst IsRefused c.as_slice.ensures
    (refused_by c.as_slice.result.now c.in-Err-Refused.field-0 c.in-Err-Refused.field-0-0 c.in-Err-Refused.field-0-is
    c.in-Err-Refused.ensures.refused))
    c.from_slice.ensures
