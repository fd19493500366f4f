use Rattle.std.proofs.Common.{rules, arith}
use Rattle.std.proofs.lemmas.Grind.{common_steps}
use Rattle.parse_cursor.proofs.Turns.{one_more, no_more}
use Rattle.parse_spec.specs.Initializers.{designators_from}
use Rattle.parse_declarations.proofs.initializer.designator_list.Goals as goal

pub returns-in_err-found : goal.returns-in_err-found
unfolding designators_from
returns-in_err-found c =
    let e = one_more (λ n. designators_from n c.loop-turn.found c.loop-turn.tokens) _ c.loop-turn._turn c.loop-turn-test.true c.loop-turn.invariant in
    first_of (search rules, grind (arith, common_steps))

pub returns-then-not-is_designator : goal.returns-then-not-is_designator
unfolding designators_from
returns-then-not-is_designator c =
    let e = one_more (λ n. designators_from n c.loop-turn.found c.loop-turn.tokens) _ c.loop-turn._turn c.loop-turn-test.true c.loop-turn.invariant in
    first_of (search rules, grind (arith, common_steps))

pub loop-turn-preserved : goal.loop-turn-preserved
unfolding designators_from
loop-turn-preserved c =
    let e = one_more (λ n. designators_from n c.loop-turn.found c.loop-turn.tokens) _ c.loop-turn._turn c.loop-turn-test.true c.loop-turn.invariant in
    first_of (search rules, grind (arith, common_steps))

pub returns : goal.returns
unfolding designators_from
returns c =
    let e = no_more (λ n. designators_from n c.loop-turn.found c.loop-turn.tokens) _ c.loop-turn._turn c.loop-turn-test.false c.loop-turn.invariant in
    first_of (search rules, grind (arith, common_steps))
