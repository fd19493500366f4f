-- The runs of the names so far are added, and those of the others are left.
use Rattle.std.proofs.Common.{◌≡◌, ◌++◌, drop, map, string_bytes, option_copied}
use Rattle.audit_batch.specs.Runs.{names_of, run_for}
use Rattle.audit_batch.proofs.list.named.Given as goal

abbrev pub invariant-loop-name : goal.invariant-loop-name
invariant-loop-name l =
    map names_of l.runs.items ++ map (run_for (option_copied l.program)) (map string_bytes (drop l.name-index l.names))
    ≡ map names_of l.fn.runs.items ++ map (run_for (option_copied l.program)) (map string_bytes l.names)
