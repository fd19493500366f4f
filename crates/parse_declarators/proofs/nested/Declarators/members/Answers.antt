use Rattle.std.proofs.Common.{rules, arith}
use Rattle.std.proofs.lemmas.Grind.{common_steps}
use Rattle.parse_spec.specs.Nested.{expr, declarator, specs}
use Rattle.parse_spec.specs.Specifiers.{members_from}
use Rattle.parse_cursor.proofs.Turns.{one_more, no_more}
use Rattle.parse_declarators.proofs.nested.Declarators.members.Goals as goal

pub returns-in_err-found : goal.returns-in_err-found
unfolding members_from
returns-in_err-found g c =
    let e = one_more (λ n. members_from (expr c.args.self.now.depth) (declarator c.args.self.now.depth) (specs c.args.self.now.depth) n c.loop-turn.found
    c.loop-turn.tokens) _ c.loop-turn._turn c.loop-turn-test.true c.loop-turn.invariant in
    first_of (search rules, grind (arith, common_steps))

pub returns-then-eat : goal.returns-then-eat
unfolding members_from
returns-then-eat g c =
    let e = one_more (λ n. members_from (expr c.args.self.now.depth) (declarator c.args.self.now.depth) (specs c.args.self.now.depth) n c.loop-turn.found
    c.loop-turn.tokens) _ c.loop-turn._turn c.loop-turn-test.true c.loop-turn.invariant in
    first_of (search rules, grind (arith, common_steps))

pub loop-turn-preserved : goal.loop-turn-preserved
unfolding members_from
loop-turn-preserved g c =
    let e = one_more (λ n. members_from (expr c.args.self.now.depth) (declarator c.args.self.now.depth) (specs c.args.self.now.depth) n c.loop-turn.found
    c.loop-turn.tokens) _ c.loop-turn._turn c.loop-turn-test.true c.loop-turn.invariant in
    first_of (search rules, grind (arith, common_steps))

pub returns : goal.returns
unfolding members_from
returns g c =
    let e = no_more (λ n. members_from (expr c.args.self.now.depth) (declarator c.args.self.now.depth) (specs c.args.self.now.depth) n c.loop-turn.found
    c.loop-turn.tokens) _ c.loop-turn._turn c.loop-turn-test.false c.loop-turn.invariant in
    first_of (search rules, grind (arith, common_steps))
