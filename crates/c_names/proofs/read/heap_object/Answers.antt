use Rattle.c_names.proofs.ObjectLemmas.{IsNoObjectText-from_heap}
use Rattle.c_names.proofs.read.heap_object.Goals as goal

pub returns-in_default-clause-answer : goal.returns-in_default-clause-answer
returns-in_default-clause-answer c =
    let none = rw c.in_default.is at c.in_ok-place.ensures.answer in
    IsNoObjectText-from_heap c.args.text.now none
