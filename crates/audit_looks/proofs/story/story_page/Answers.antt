use Rattle.std.proofs.Common.{◌∙◌, ◌++◌, ap}
use Rattle.audit_looks.proofs.story.story_page.Goals as goal

pub returns-clause-page : goal.returns-clause-page
returns-clause-page g c = record {
  front = c.in_ok-text.text;
  body = c.in_ok-page.page.text;
  story = c.in_ok-text.ensures;
  audit = c.in_ok-page.ensures.page;
  both = c.in_ok-append.ensures.ok ∙ ap (λ z. c.in_ok-text.text ++ z) c.as_slice.ensures;
}
