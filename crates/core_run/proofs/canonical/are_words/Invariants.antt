use Rattle.std.proofs.Common.{string_bytes, take}
use Rattle.std.specs.List.{All}
use Rattle.value_facts.specs.Held.{AreBytes}
use Rattle.core_run.proofs.canonical.are_words.Given as goal

-- the words so far have bytes
abbrev pub invariant-loop-word : goal.invariant-loop-word
invariant-loop-word l = All (λ w. AreBytes (string_bytes w)) (take l.word-index l.words)
