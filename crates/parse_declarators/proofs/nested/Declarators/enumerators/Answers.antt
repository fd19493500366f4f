use Rattle.std.proofs.Common.{rules, arith}
use Rattle.std.proofs.lemmas.Grind.{common_steps}
use Rattle.parse_spec.specs.Nested.{expr, declarator, specs}
use Rattle.parse_spec.specs.Specifiers.{enumerators_from}
use Rattle.parse_cursor.proofs.Turns.{one_more, no_more}
use Rattle.parse_declarators.proofs.nested.Declarators.enumerators.Goals as goal

pub returns-in_err-found : goal.returns-in_err-found
unfolding enumerators_from
returns-in_err-found g c =
    let e = one_more (λ n. enumerators_from (expr c.args.self.now.depth) (declarator c.args.self.now.depth) (specs c.args.self.now.depth) n c.loop-turn.found
    c.loop-turn.tokens) _ c.loop-turn._turn c.loop-turn-test.true c.loop-turn.invariant in
    first_of (search rules, grind (arith, common_steps))

pub returns-then-not-eat : goal.returns-then-not-eat
unfolding enumerators_from
returns-then-not-eat g c =
    let e = one_more (λ n. enumerators_from (expr c.args.self.now.depth) (declarator c.args.self.now.depth) (specs c.args.self.now.depth) n c.loop-turn.found
    c.loop-turn.tokens) _ c.loop-turn._turn c.loop-turn-test.true c.loop-turn.invariant in
    first_of (search rules, grind (arith, common_steps))

pub returns-then-eat : goal.returns-then-eat
unfolding enumerators_from
returns-then-eat g c =
    let e = one_more (λ n. enumerators_from (expr c.args.self.now.depth) (declarator c.args.self.now.depth) (specs c.args.self.now.depth) n c.loop-turn.found
    c.loop-turn.tokens) _ c.loop-turn._turn c.loop-turn-test.true c.loop-turn.invariant in
    first_of (search rules, grind (arith, common_steps))

pub loop-turn-preserved : goal.loop-turn-preserved
unfolding enumerators_from
loop-turn-preserved g c =
    let e = one_more (λ n. enumerators_from (expr c.args.self.now.depth) (declarator c.args.self.now.depth) (specs c.args.self.now.depth) n c.loop-turn.found
    c.loop-turn.tokens) _ c.loop-turn._turn c.loop-turn-test.true c.loop-turn.invariant in
    first_of (search rules, grind (arith, common_steps))

pub returns : goal.returns
unfolding enumerators_from
returns g c =
    let e = no_more (λ n. enumerators_from (expr c.args.self.now.depth) (declarator c.args.self.now.depth) (specs c.args.self.now.depth) n c.loop-turn.found
    c.loop-turn.tokens) _ c.loop-turn._turn c.loop-turn-test.false c.loop-turn.invariant in
    first_of (search rules, grind (arith, common_steps))
