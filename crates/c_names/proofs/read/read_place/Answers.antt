use Rattle.c_names.proofs.WordLemmas.{IsNoPlaceText-from_words, IsNoPlaceText-from_frame}
use Rattle.c_names.proofs.read.read_place.Goals as goal

pub returns-in_default-clause-answer : goal.returns-in_default-clause-answer
returns-in_default-clause-answer c = IsNoPlaceText-from_words c.args.text.now c.in_default.ensures

pub returns-in_default-2-clause-answer : goal.returns-in_default-2-clause-answer
returns-in_default-2-clause-answer c =
    let none = rw c.in_default-2.is at c.in_ok-frame.ensures.answer in
    IsNoPlaceText-from_frame c.args.text.now c.in-Some.words.frame.now c.in-Some.words.turn c.in-Some.words.number c.in-Some.ensures none
