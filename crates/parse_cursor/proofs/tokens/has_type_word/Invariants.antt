use Rattle.std.proofs.Common.{◌≡◌, drop}
use Rattle.c_grammar.specs.Rules.{has_type_word}
use Rattle.parse_cursor.proofs.tokens.has_type_word.Given as goal

abbrev pub invariant-loop-word : goal.invariant-loop-word
invariant-loop-word l = has_type_word l.words ≡ has_type_word (drop l.word-index l.words)
