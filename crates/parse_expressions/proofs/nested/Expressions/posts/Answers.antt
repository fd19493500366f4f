use Rattle.std.proofs.Common.{rules, arith}
use Rattle.std.proofs.lemmas.Grind.{common_steps}
use Rattle.parse_spec.specs.Expressions.{posts, posts_from, tight}
use Rattle.parse_spec.specs.Nested.{expr, declarator, specs}
use Rattle.parse_cursor.proofs.Turns.{one_more, no_more}
use Rattle.parse_expressions.proofs.nested.Expressions.posts.Goals as goal

pub loop-turn-init : goal.loop-turn-init
unfolding posts
loop-turn-init g c = first_of (search rules, grind (arith, common_steps))

pub returns-then-tight-le-POSTFIX : goal.returns-then-tight-le-POSTFIX
unfolding posts_from tight
returns-then-tight-le-POSTFIX g c =
    let e = one_more (λ n. posts_from (expr c.args.self.now.depth) (declarator c.args.self.now.depth) (specs c.args.self.now.depth) c.args.at n
    c.loop-turn.left c.loop-turn.tokens) _ c.loop-turn._turn c.loop-turn-test.true c.loop-turn.invariant in
    first_of (search rules, grind (arith, common_steps))

pub returns-in_err-left : goal.returns-in_err-left
unfolding posts_from tight
returns-in_err-left g c =
    let e = one_more (λ n. posts_from (expr c.args.self.now.depth) (declarator c.args.self.now.depth) (specs c.args.self.now.depth) c.args.at n
    c.loop-turn.left c.loop-turn.tokens) _ c.loop-turn._turn c.loop-turn-test.true c.loop-turn.invariant in
    first_of (search rules, grind (arith, common_steps))

pub loop-turn-preserved : goal.loop-turn-preserved
unfolding posts_from tight
loop-turn-preserved g c =
    let e = one_more (λ n. posts_from (expr c.args.self.now.depth) (declarator c.args.self.now.depth) (specs c.args.self.now.depth) c.args.at n
    c.loop-turn.left c.loop-turn.tokens) _ c.loop-turn._turn c.loop-turn-test.true c.loop-turn.invariant in
    first_of (search rules, grind (arith, common_steps))

pub returns : goal.returns
unfolding posts_from tight
returns g c =
    let e = no_more (λ n. posts_from (expr c.args.self.now.depth) (declarator c.args.self.now.depth) (specs c.args.self.now.depth) c.args.at n
    c.loop-turn.left c.loop-turn.tokens) _ c.loop-turn._turn c.loop-turn-test.false c.loop-turn.invariant in
    first_of (search rules, grind (arith, common_steps))
