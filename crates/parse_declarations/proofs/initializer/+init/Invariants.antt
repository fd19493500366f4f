use Rattle.std.proofs.Common.{◌≡◌, ◌*◌, ◌+◌, ◌-◌, []}
use Rattle.parse_spec.specs.Initializers.{initializer, entries_from}
use Rattle.parse_spec.specs.Steps.{turns}
use Rattle.parse_declarations.proofs.initializer.+init.Given as goal

abbrev pub decreases-init_entries : goal.decreases-init_entries
decreases-init_entries l = 3 * l.depth + 2

abbrev pub decreases-init_entry : goal.decreases-init_entry
decreases-init_entry l = 3 * l.depth + 1

abbrev pub decreases-initializer : goal.decreases-initializer
decreases-initializer l = 3 * l.depth

abbrev pub invariant-init_entries-loop-turn : goal.invariant-init_entries-loop-turn
invariant-init_entries-loop-turn l =
    entries_from (initializer l.depth) (turns l.fn.tokens) [] l.fn.tokens ≡ entries_from (initializer l.depth) (l._turn-end - l._turn) l.found l.tokens
