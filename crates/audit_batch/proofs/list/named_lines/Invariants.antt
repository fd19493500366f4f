-- The runs of the names so far are added, and those of the others are left.
use Rattle.std.proofs.Common.{◌≡◌, ◌++◌, drop, map, filter, option_copied}
use Rattle.audit_batch.specs.Runs.{is_name, names_of, run_for}
use Rattle.audit_batch.proofs.list.named_lines.Given as goal

abbrev pub invariant-loop-line : goal.invariant-loop-line
invariant-loop-line l =
    map names_of l.runs.items ++ map (run_for (option_copied l.program)) (filter is_name (map (λ line. line.now) (drop l.line-index l.lines)))
    ≡ map names_of l.fn.runs.items ++ map (run_for (option_copied l.program)) (filter is_name (map (λ line. line.now) l.lines))
