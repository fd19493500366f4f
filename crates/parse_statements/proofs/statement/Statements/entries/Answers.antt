use Rattle.std.proofs.Common.{rules, arith}
use Rattle.std.proofs.lemmas.Grind.{common_steps}
use Rattle.parse_cursor.proofs.Turns.{one_more, no_more}
use Rattle.parse_spec.specs.Statements.{statement, entries, entries_from}
use Rattle.parse_statements.proofs.statement.Statements.entries.Goals as goal

pub loop-turn-init : goal.loop-turn-init
unfolding entries
loop-turn-init g c = first_of (search rules, grind (arith, common_steps))

pub returns-then-eat : goal.returns-then-eat
unfolding entries_from
returns-then-eat g c =
    let e = one_more (λ n. entries_from (statement c.args.self.now.depth) n c.loop-turn.found c.loop-turn.tokens) _ c.loop-turn._turn c.loop-turn-test.true
    c.loop-turn.invariant in
    first_of (search rules, grind (arith, common_steps))

pub returns-in_err-found : goal.returns-in_err-found
unfolding entries_from
returns-in_err-found g c =
    let e = one_more (λ n. entries_from (statement c.args.self.now.depth) n c.loop-turn.found c.loop-turn.tokens) _ c.loop-turn._turn c.loop-turn-test.true
    c.loop-turn.invariant in
    first_of (search rules, grind (arith, common_steps))

pub loop-turn-preserved : goal.loop-turn-preserved
unfolding entries_from
loop-turn-preserved g c =
    let e = one_more (λ n. entries_from (statement c.args.self.now.depth) n c.loop-turn.found c.loop-turn.tokens) _ c.loop-turn._turn c.loop-turn-test.true
    c.loop-turn.invariant in
    first_of (search rules, grind (arith, common_steps))

pub returns : goal.returns
unfolding entries_from
returns g c =
    let e = no_more (λ n. entries_from (statement c.args.self.now.depth) n c.loop-turn.found c.loop-turn.tokens) _ c.loop-turn._turn c.loop-turn-test.false
    c.loop-turn.invariant in
    first_of (search rules, grind (arith, common_steps))
