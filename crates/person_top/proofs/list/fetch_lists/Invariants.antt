-- The lists so far are fetched, and no file has changed.
use Rattle.std.proofs.Common.{◌≡◌, drop, map, string_bytes}
use Rattle.person_top.proofs.Lists.{Fetching}
use Rattle.person_top.proofs.list.fetch_lists.Given as goal

abbrev pub invariant-loop-name : goal.invariant-loop-name
invariant-loop-name g l =
    (g.F.Files.held l.files ≡ g.F.Files.held l.fn.files)
    × Fetching (g.F.Files.held l.fn.files) (g.F.Files.read_faults l.fn.files) (map string_bytes l.names) (g.F.Files.read_faults l.files) l.texts.items
    (map string_bytes (drop l.name-index l.names))
