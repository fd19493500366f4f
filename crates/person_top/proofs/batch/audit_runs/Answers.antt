use Rattle.std.proofs.Common.{Err, ap, inl, inr}
use Rattle.person_top.specs.Batch.{IsSummary}
use Rattle.person_top.proofs.Ends.{break_ends, told_earlier}
use Rattle.person_top.proofs.batch.audit_runs.Goals as goal

pub returns-in-Ok-clause-ends : goal.returns-in-Ok-clause-ends
returns-in-Ok-clause-ends g c = inl (record {
  tally = c.in-Ok.tally;
  told = g.O.Sink.told c.audit_all.new.out;
  reaches = c.in-Ok.ensures.said;
  ends = told_earlier (IsSummary c.in-Ok.tally) (g.O.Sink.told c.audit_all.new.out) (g.O.Sink.told c.put_summary.new.out) (g.O.Sink.faults c.args.out.now)
      (g.O.Sink.faults c.audit_all.new.out) (g.O.Sink.faults c.put_summary.new.out) c.put_summary.result c.in-Ok.ensures.later c.put_summary.ensures;
})

pub returns-in-Err-clause-ends : goal.returns-in-Err-clause-ends
returns-in-Err-clause-ends g c = inr (record {
  told = g.O.Sink.told c.audit_all.new.out;
  breaks = c.in-Err.ensures.cut;
  ends = break_ends c.in-Err.fault (g.O.Sink.told c.audit_all.new.out) (g.O.Sink.told c.put_break.new.out) (g.O.Sink.faults c.args.out.now)
      (g.O.Sink.faults c.audit_all.new.out) (g.O.Sink.faults c.put_break.new.out) c.put_break.result c.in-Err.ensures.later
      (λ is. c.in-Err.ensures.failed (ap Err is))
      c.put_break.ensures;
})
