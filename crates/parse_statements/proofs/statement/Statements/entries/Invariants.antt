use Rattle.std.proofs.Common.{◌≡◌, ◌-◌}
use Rattle.parse_spec.specs.Statements.{statement, entries, entries_from}
use Rattle.parse_statements.proofs.statement.Statements.entries.Given as goal

abbrev pub invariant-loop-turn : goal.invariant-loop-turn
invariant-loop-turn g l = entries (statement l.self.depth) l.fn.tokens ≡ entries_from (statement l.self.depth) (l._turn-end - l._turn) l.found l.tokens
