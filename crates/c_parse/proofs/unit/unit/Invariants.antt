use Rattle.std.proofs.Common.{◌≡◌, ◌-◌}
use Rattle.parse_spec.specs.Units.{whole_unit, entries_from}
use Rattle.c_parse.proofs.unit.unit.Given as goal

abbrev pub invariant-loop-turn : goal.invariant-loop-turn
invariant-loop-turn l = whole_unit l.fn.tokens ≡ entries_from (l._turn-end - l._turn) l.found l.tokens
