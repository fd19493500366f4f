use Rattle.audit_verdict.proofs.run.audited.Goals as goal

pub returns : goal.returns
returns g c = record {
  finding = c.in_ok-audit.audit.finding;
  frames = c.in_ok-audit.audit.frames;
  output = c.in_ok-audit.audit.output;
  status = c.status_of.ensures;
  report = c.in_ok-report.ensures;
  within = c.in_ok-audit.ensures.within;
  out_of_steps = c.in_ok-audit.ensures.out_of_steps;
  items = c.in_ok-audit.ensures.items;
}
