-- The runs of the lists so far are there, and those of the others are left.
use Rattle.std.proofs.Common.{◌≡◌, ◌++◌, drop, map}
use Rattle.std.specs.Prelude.{option_copied}
use Rattle.audit_batch.specs.Runs.{names_of, run_for}
use Rattle.person_top.specs.Batch.{AreUtf8, names_in_all}
use Rattle.person_top.proofs.list.listed_runs.Given as goal

abbrev pub invariant-loop-list : goal.invariant-loop-list
invariant-loop-list l =
    (map names_of l.runs.items ++ map (run_for (option_copied l.program)) (names_in_all (drop l.list-index l.lists))
    ≡ map (run_for (option_copied l.program)) (names_in_all l.lists))
    × (AreUtf8 l.lists → AreUtf8 (drop l.list-index l.lists))
