use Rattle.std.proofs.Common.{◌≡◌, drop, false}
use Rattle.type_declarators.specs.Keywords.{pointer_from}
use Rattle.type_declarators.proofs.words.pointer_qualifiers.Given as goal

abbrev pub invariant-loop-word : goal.invariant-loop-word
invariant-loop-word l = pointer_from l.constant l.restricted (drop l.word-index l.words) ≡ pointer_from false false l.words
