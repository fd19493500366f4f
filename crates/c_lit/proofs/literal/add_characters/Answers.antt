use Rattle.c_lit.proofs.CharacterList.{so_far_none, so_far_more, all_added}
use Rattle.c_lit.proofs.literal.add_characters.Goals as goal

pub loop-first-init : goal.loop-first-init
loop-first-init c = so_far_none _ _

pub loop-first-preserved : goal.loop-first-preserved
loop-first-preserved c =
    so_far_more c.in-Some.first.now c.in-Some.tail.now c.in-Some-next_character.next c.loop-first.invariant
    c.in-Some.ensures.cases.0 c.in-Some-next_character.ensures.value c.in-Some-next_character.ensures.within.0 c.in_ok-push.ensures.ok c.split_at.ensures.back

pub returns-clause-ok : goal.returns-clause-ok
returns-clause-ok c = all_added c.loop-first.invariant c.in_default.ensures.cases
