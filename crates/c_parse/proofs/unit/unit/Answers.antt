use Rattle.std.proofs.Common.{rules, arith}
use Rattle.std.proofs.lemmas.Grind.{common_steps}
use Rattle.parse_cursor.proofs.Turns.{one_more, no_more}
use Rattle.parse_spec.specs.Units.{whole_unit, entries_from}
use Rattle.c_parse.proofs.unit.unit.Goals as goal

pub loop-turn-init : goal.loop-turn-init
unfolding whole_unit
loop-turn-init c = first_of (search rules, grind (arith, common_steps))

pub returns-in-None : goal.returns-in-None
unfolding entries_from
returns-in-None c =
    let e = one_more (λ n. entries_from n c.loop-turn.found c.loop-turn.tokens) _ c.loop-turn._turn c.loop-turn-test.true c.loop-turn.invariant in
    first_of (search rules, grind (arith, common_steps))

pub returns-in_err-found-in-Some : goal.returns-in_err-found-in-Some
unfolding entries_from
returns-in_err-found-in-Some c =
    let e = one_more (λ n. entries_from n c.loop-turn.found c.loop-turn.tokens) _ c.loop-turn._turn c.loop-turn-test.true c.loop-turn.invariant in
    first_of (search rules, grind (arith, common_steps))

pub loop-turn-preserved : goal.loop-turn-preserved
unfolding entries_from
loop-turn-preserved c =
    let e = one_more (λ n. entries_from n c.loop-turn.found c.loop-turn.tokens) _ c.loop-turn._turn c.loop-turn-test.true c.loop-turn.invariant in
    first_of (search rules, grind (arith, common_steps))

pub returns : goal.returns
unfolding entries_from
returns c =
    let e = no_more (λ n. entries_from n c.loop-turn.found c.loop-turn.tokens) _ c.loop-turn._turn c.loop-turn-test.false c.loop-turn.invariant in
    first_of (search rules, grind (arith, common_steps))
