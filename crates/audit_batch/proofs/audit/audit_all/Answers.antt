use Rattle.std.proofs.Common.{ap, map, refl, ◌∙◌, arith}
use Rattle.audit_batch.specs.Batch.{no_runs}
use Rattle.audit_batch.specs.Moment.{moment}
use Rattle.audit_batch.specs.Runs.{names_of, stand}
use Rattle.audit_batch.proofs.Turns.{reaches_none, reaches_run}
use Rattle.audit_batch.proofs.audit.audit_all.Goals as goal

pub loop-run-init : goal.loop-run-init
loop-run-init g c = (
  refl,
  omega arith,
  reaches_none (g.A.Auditor.says c.args.auditor.now c.args.limits)
      (stand (moment (g.F.Files.held c.args.files.now) (g.F.Files.read_faults c.args.files.now) (g.F.Files.write_faults c.args.files.now))
      (g.O.Sink.told c.args.out.now) no_runs)
      (map names_of c.args.runs.now)
      (stand (moment (g.F.Files.held c.args.files.now) (g.F.Files.read_faults c.args.files.now) (g.F.Files.write_faults c.args.files.now))
      (g.O.Sink.told c.args.out.now) c.new-tally.result)
      (ap (stand (moment (g.F.Files.held c.args.files.now) (g.F.Files.read_faults c.args.files.now) (g.F.Files.write_faults c.args.files.now))
      (g.O.Sink.told c.args.out.now)) c.new-tally.ensures),
)

pub loop-run-preserved : goal.loop-run-preserved
loop-run-preserved g c = (
  c.in-Ok.ensures.held ∙ c.loop-run.invariant.0,
  omega (arith, c.loop-run.invariant.1, c.in-Ok.ensures.later),
  reaches_run (g.A.Auditor.says c.args.auditor.now c.args.limits)
      (stand (moment (g.F.Files.held c.args.files.now) (g.F.Files.read_faults c.args.files.now) (g.F.Files.write_faults c.args.files.now))
      (g.O.Sink.told c.args.out.now) no_runs)
      (stand (moment (g.F.Files.held c.loop-run.files) (g.F.Files.read_faults c.loop-run.files) (g.F.Files.write_faults c.loop-run.files))
      (g.O.Sink.told c.loop-run.out) c.loop-run.tally)
      (stand (moment (g.F.Files.held c.audit_one.new.files) (g.F.Files.read_faults c.audit_one.new.files) (g.F.Files.write_faults c.audit_one.new.files))
      (g.O.Sink.told c.audit_one.new.out) c.after-tally.result)
      c.args.runs.now c.loop-run.run-index _ c.in-Ok.status c.loop-run-test.true c.in-Ok.ensures.said c.after-tally.ensures c.loop-run.invariant.2,
)
