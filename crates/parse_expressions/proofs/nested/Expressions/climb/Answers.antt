use Rattle.std.proofs.Common.{rules, arith}
use Rattle.std.proofs.lemmas.Grind.{common_steps}
use Rattle.parse_spec.specs.Expressions.{climbed, climb, tight}
use Rattle.parse_spec.specs.Nested.{expr, declarator, specs}
use Rattle.parse_cursor.proofs.Turns.{one_more, no_more}
use Rattle.parse_expressions.proofs.nested.Expressions.climb.Goals as goal

pub loop-turn-init : goal.loop-turn-init
unfolding climbed
loop-turn-init g c = first_of (search rules, grind (arith, common_steps))

pub returns-then-tight-least : goal.returns-then-tight-least
unfolding climb tight
returns-then-tight-least g c =
    let e = one_more (λ n. climb (expr c.args.self.now.depth) (declarator c.args.self.now.depth) (specs c.args.self.now.depth) c.args.least c.args.at n
    c.loop-turn.lone c.loop-turn.left c.loop-turn.tokens) _ c.loop-turn._turn c.loop-turn-test.true c.loop-turn.invariant in
    first_of (search rules, grind (arith, common_steps))

pub returns-in_err-left : goal.returns-in_err-left
unfolding climb tight
returns-in_err-left g c =
    let e = one_more (λ n. climb (expr c.args.self.now.depth) (declarator c.args.self.now.depth) (specs c.args.self.now.depth) c.args.least c.args.at n
    c.loop-turn.lone c.loop-turn.left c.loop-turn.tokens) _ c.loop-turn._turn c.loop-turn-test.true c.loop-turn.invariant in
    first_of (search rules, grind (arith, common_steps))

pub loop-turn-preserved : goal.loop-turn-preserved
unfolding climb tight
loop-turn-preserved g c =
    let e = one_more (λ n. climb (expr c.args.self.now.depth) (declarator c.args.self.now.depth) (specs c.args.self.now.depth) c.args.least c.args.at n
    c.loop-turn.lone c.loop-turn.left c.loop-turn.tokens) _ c.loop-turn._turn c.loop-turn-test.true c.loop-turn.invariant in
    first_of (search rules, grind (arith, common_steps))

pub returns : goal.returns
unfolding climb tight
returns g c =
    let e = no_more (λ n. climb (expr c.args.self.now.depth) (declarator c.args.self.now.depth) (specs c.args.self.now.depth) c.args.least c.args.at n
    c.loop-turn.lone c.loop-turn.left c.loop-turn.tokens) _ c.loop-turn._turn c.loop-turn-test.false c.loop-turn.invariant in
    first_of (search rules, grind (arith, common_steps))
