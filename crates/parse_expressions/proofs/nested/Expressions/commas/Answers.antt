use Rattle.std.proofs.Common.{rules, arith}
use Rattle.std.proofs.lemmas.Grind.{common_steps}
use Rattle.parse_spec.specs.Expressions.{commas, commas_from}
use Rattle.parse_spec.specs.Nested.{expr, declarator, specs}
use Rattle.parse_cursor.proofs.Turns.{one_more, no_more}
use Rattle.parse_expressions.proofs.nested.Expressions.commas.Goals as goal

pub loop-turn-init : goal.loop-turn-init
unfolding commas
loop-turn-init g c = first_of (search rules, grind (arith, common_steps))

pub returns-then-not-eat : goal.returns-then-not-eat
unfolding commas_from
returns-then-not-eat g c =
    let e = one_more (λ n. commas_from (expr c.args.self.now.depth) (declarator c.args.self.now.depth) (specs c.args.self.now.depth) c.args.at n
    c.loop-turn.found c.loop-turn.tokens) _ c.loop-turn._turn c.loop-turn-test.true c.loop-turn.invariant in
    first_of (search rules, grind (arith, common_steps))

pub returns-in_err-found-2 : goal.returns-in_err-found-2
unfolding commas_from
returns-in_err-found-2 g c =
    let e = one_more (λ n. commas_from (expr c.args.self.now.depth) (declarator c.args.self.now.depth) (specs c.args.self.now.depth) c.args.at n
    c.loop-turn.found c.loop-turn.tokens) _ c.loop-turn._turn c.loop-turn-test.true c.loop-turn.invariant in
    first_of (search rules, grind (arith, common_steps))

pub loop-turn-preserved : goal.loop-turn-preserved
unfolding commas_from
loop-turn-preserved g c =
    let e = one_more (λ n. commas_from (expr c.args.self.now.depth) (declarator c.args.self.now.depth) (specs c.args.self.now.depth) c.args.at n
    c.loop-turn.found c.loop-turn.tokens) _ c.loop-turn._turn c.loop-turn-test.true c.loop-turn.invariant in
    first_of (search rules, grind (arith, common_steps))

pub returns : goal.returns
unfolding commas_from
returns g c =
    let e = no_more (λ n. commas_from (expr c.args.self.now.depth) (declarator c.args.self.now.depth) (specs c.args.self.now.depth) c.args.at n
    c.loop-turn.found c.loop-turn.tokens) _ c.loop-turn._turn c.loop-turn-test.false c.loop-turn.invariant in
    first_of (search rules, grind (arith, common_steps))
