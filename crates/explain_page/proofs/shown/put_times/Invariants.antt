use Rattle.std.proofs.Common.{◌≡◌, ◌++◌, replicate}
use Rattle.explain_page.proofs.shown.put_times.Given as goal

abbrev pub invariant-loop-turn : goal.invariant-loop-turn
invariant-loop-turn l = l.out ≡ l.initial.out ++ replicate l._turn l.byte
