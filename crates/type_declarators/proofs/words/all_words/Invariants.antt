use Rattle.std.proofs.Common.{◌≡◌, drop}
use Rattle.type_declarators.specs.Keywords.{all_added, none_held}
use Rattle.type_declarators.proofs.words.all_words.Given as goal

abbrev pub invariant-loop-word : goal.invariant-loop-word
invariant-loop-word l = all_added l.all (drop l.word-index l.words) ≡ all_added none_held l.words
