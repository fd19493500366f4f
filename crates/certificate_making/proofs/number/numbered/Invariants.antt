-- The frames before the loop's place are numbered.
use Rattle.certificate_making.specs.Numbering.{IsNumbered}
use Rattle.certificate_making.proofs.number.numbered.Given as goal

abbrev pub invariant-loop-at : goal.invariant-loop-at
invariant-loop-at l = IsNumbered l.frames l.marks l.at l.kept l.numbers.items
