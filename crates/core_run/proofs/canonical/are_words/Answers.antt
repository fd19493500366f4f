use Rattle.std.proofs.Common.{arith, string_bytes, subst}
use Rattle.std.specs.List.{All}
use Rattle.std.proofs.lemmas.List.{take_all}
use Rattle.std.proofs.lemmas.List.Elements.{All-map, All-more}
use Rattle.value_facts.specs.Held.{AreBytes}
use Rattle.core_run.proofs.canonical.are_words.Goals as goal

pub loop-word-preserved : goal.loop-word-preserved
loop-word-preserved c =
    All-more (λ w. AreBytes (string_bytes w)) c.args.words.now c.loop-word.word-index c.word-item.result (omega arith)
    c.loop-word.invariant (subst (λ w. AreBytes (string_bytes w)) c.word-item.is c.is_word.ensures)

pub returns : goal.returns
returns c =
    All-map AreBytes string_bytes c.args.words.now
    (subst (All (λ w. AreBytes (string_bytes w))) (take_all c.loop-word.word-index c.args.words.now (omega arith)) c.loop-word.invariant)
