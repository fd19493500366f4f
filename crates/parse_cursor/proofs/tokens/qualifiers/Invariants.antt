use Rattle.std.proofs.Common.{◌≡◌, ◌-◌}
use Rattle.c_grammar.specs.Rules.{Words, is_qualifier}
use Rattle.parse_spec.specs.Steps.{words, words_from}
use Rattle.parse_cursor.proofs.tokens.qualifiers.Given as goal

abbrev pub invariant-loop-turn : goal.invariant-loop-turn
invariant-loop-turn l = record {
  run : Words is_qualifier l.found l.fn.tokens l.tokens;
  read : words is_qualifier l.fn.tokens ≡ words_from is_qualifier (l._turn-end - l._turn) l.found l.tokens;
}
