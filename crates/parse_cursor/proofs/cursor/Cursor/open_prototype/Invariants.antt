use Rattle.std.proofs.Common.{◌≡◌}
use Rattle.parse_cursor.proofs.Runs.{with_first}
use Rattle.parse_cursor.proofs.cursor.Cursor.open_prototype.Given as goal

abbrev pub invariant-loop-k : goal.invariant-loop-k
invariant-loop-k l = l.self ≡ with_first l.k l.fn.self
