use Rattle.std.proofs.Common.{length}
use Rattle.c_lit.proofs.CharacterList.{SoFar}
use Rattle.c_lit.proofs.literal.add_characters.Given as goal

abbrev pub invariant-loop-first : goal.invariant-loop-first
invariant-loop-first l = SoFar l.fn.out l.out l.body l.rest

abbrev pub decreases-loop-first : goal.decreases-loop-first
decreases-loop-first l = length l.rest
