use Rattle.std.proofs.Common.{length, ◌-◌}
use Rattle.first_form.proofs.ReadTokens.{SoFar}
use Rattle.first_form.proofs.lexer.lex.Given as goal

abbrev pub invariant-loop-list : goal.invariant-loop-list
invariant-loop-list l = SoFar l.src l.list.items l.at l.line

abbrev pub decreases-loop-list : goal.decreases-loop-list
decreases-loop-list l = length l.src - l.at
