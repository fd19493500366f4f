use Rattle.std.proofs.Common.{◌≡◌, length}
use Rattle.std.specs.List.{All}
use Rattle.type_scope.specs.Uses.{IsUnused}
use Rattle.type_scope.proofs.state.empty_rows.Given as goal

abbrev pub invariant-loop-turn : goal.invariant-loop-turn
invariant-loop-turn l = (length l.rows.items ≡ l._turn) × All IsUnused l.rows.items
