use Rattle.std.proofs.Common.{◌≡◌, ◌-◌}
use Rattle.c_grammar.specs.Rules.{Words}
use Rattle.parse_cursor.specs.Places.{allowed_in}
use Rattle.parse_spec.specs.Steps.{words, words_from}
use Rattle.parse_cursor.proofs.tokens.specifier_words.Given as goal

abbrev pub invariant-loop-turn : goal.invariant-loop-turn
invariant-loop-turn l = record {
  run : Words (allowed_in l.place) l.found l.fn.tokens l.tokens;
  read : words (allowed_in l.place) l.fn.tokens ≡ words_from (allowed_in l.place) (l._turn-end - l._turn) l.found l.tokens;
}
