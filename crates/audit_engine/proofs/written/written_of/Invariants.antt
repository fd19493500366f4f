-- No file has changed, and no write has failed.
use Rattle.std.proofs.Common.{◌≡◌}
use Rattle.audit_engine.proofs.written.written_of.Given as goal

abbrev pub invariant-loop-named : goal.invariant-loop-named
invariant-loop-named g l =
    (g.F.Files.held l.files ≡ g.F.Files.held l.fn.files)
    × (g.F.Files.write_faults l.files ≡ g.F.Files.write_faults l.fn.files)
