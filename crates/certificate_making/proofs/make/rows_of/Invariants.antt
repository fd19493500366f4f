-- The rows so far, and those that begin at `from` or behind it, are the rows of the map.
use Rattle.certificate_making.specs.Making.{Rises}
use Rattle.certificate_making.proofs.Rising.{Passed}
use Rattle.certificate_making.proofs.make.rows_of.Given as goal

abbrev pub invariant-loop-turn : goal.invariant-loop-turn
invariant-loop-turn l = Rises 0 l.map → Passed l._turn l.from l.rows.items l.map
