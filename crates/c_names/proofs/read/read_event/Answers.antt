use Rattle.c_names.proofs.WordLemmas.{IsNoEventText-from_words, IsNoEventText-from_frame}
use Rattle.c_names.proofs.read.read_event.Goals as goal

pub returns-in_default-clause-answer : goal.returns-in_default-clause-answer
returns-in_default-clause-answer c = IsNoEventText-from_words c.args.text.now c.in_default.ensures

pub returns-in_default-2-clause-answer : goal.returns-in_default-2-clause-answer
returns-in_default-2-clause-answer c =
    let none = rw c.in_default-2.is at c.in_ok-frame.ensures.answer in
    IsNoEventText-from_frame c.args.text.now c.in-Some.words.frame.now c.in-Some.words.turn c.in-Some.words.node c.in-Some.words.kind c.in-Some.ensures none
