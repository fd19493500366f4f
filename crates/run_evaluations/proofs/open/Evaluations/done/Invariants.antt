-- None of the events so far is the value.
use Rattle.run_evaluations.proofs.EndLemmas.{NoValue}
use Rattle.run_evaluations.proofs.open.Evaluations.done.Given as goal

abbrev pub invariant-loop-at : goal.invariant-loop-at
invariant-loop-at l = NoValue l.self l.node l.at
