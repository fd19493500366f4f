use Rattle.std.proofs.Common.{◌≡◌, drop}
use Rattle.c_grammar.specs.Rules.{declares_typedef}
use Rattle.parse_cursor.proofs.tokens.declares_typedef.Given as goal

abbrev pub invariant-loop-word : goal.invariant-loop-word
invariant-loop-word l = declares_typedef l.fn.specs.words ≡ declares_typedef (drop l.word-index l.word-items)
