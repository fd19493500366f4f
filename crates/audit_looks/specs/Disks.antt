-- The files of a moment (own).
use Rattle.audit_batch.specs.Moment.{Moment}
use Rattle.audit_verdict.specs.Cause.{Disk, disk}

-- the files as an audit sees them
abbrev pub disk_at : Moment → Disk
disk_at at = disk at.held at.reads at.writes
