-- The runs so far are said in turn and counted, and no file has changed.
use Rattle.std.proofs.Common.{◌≡◌, ◌≤◌, drop, map}
use Rattle.audit_batch.specs.Batch.{no_runs}
use Rattle.audit_batch.specs.Moment.{moment}
use Rattle.audit_batch.specs.Runs.{Reaches, names_of, stand}
use Rattle.audit_batch.proofs.audit.audit_all.Given as goal

abbrev pub invariant-loop-run : goal.invariant-loop-run
invariant-loop-run g l =
    (g.F.Files.held l.files ≡ g.F.Files.held l.fn.files)
    × (g.O.Sink.faults l.fn.out ≤ g.O.Sink.faults l.out)
    × Reaches (g.A.Auditor.says l.auditor l.limits)
    (stand (moment (g.F.Files.held l.fn.files) (g.F.Files.read_faults l.fn.files) (g.F.Files.write_faults l.fn.files)) (g.O.Sink.told l.fn.out) no_runs)
    (map names_of l.runs)
    (stand (moment (g.F.Files.held l.files) (g.F.Files.read_faults l.files) (g.F.Files.write_faults l.files)) (g.O.Sink.told l.out) l.tally)
    (map names_of (drop l.run-index l.runs))
