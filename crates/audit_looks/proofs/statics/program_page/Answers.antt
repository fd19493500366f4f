use Rattle.audit_looks.proofs.statics.program_page.Goals as goal

pub returns : goal.returns
returns c = record {
  code = c.in_ok-text.ensures.status;
  page = c.in_ok-text.ensures.report;
}
