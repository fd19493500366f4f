use Rattle.std.proofs.Common.{◌≡◌, ◌∙◌, subst}
use Rattle.std.specs.Prelude.{MatchOption}
use Rattle.audit_batch.specs.Moment.{moment}
use Rattle.audit_looks.proofs.Stories.{named_story}
use Rattle.c_names.specs.Texts.{IsNoObjectText, object_text}
use Rattle.audit_looks.proofs.story.story_sheet.Goals as goal

pub returns-in-Some-clause-sheet : goal.returns-in-Some-clause-sheet
returns-in-Some-clause-sheet g c =
    named_story (moment (g.F.Files.held c.args.files.now) (g.F.Files.read_faults c.args.files.now) (g.F.Files.write_faults c.args.files.now))
    (moment (g.F.Files.held c.named_sheet.new.files) (g.F.Files.read_faults c.named_sheet.new.files) (g.F.Files.write_faults c.named_sheet.new.files))
    (c.read_object.new.frames, c.in-Some.object) c.args.request.now c.named_sheet.result
    (subst (λ found. MatchOption found (IsNoObjectText c.as_bytes.result.now) (λ o. object_text c.read_object.new.frames o ≡ c.as_bytes.result.now))
    c.in-Some.is c.in_ok-object.ensures.answer ∙ c.as_bytes.ensures.value) c.named_sheet.ensures.sheet
