use Rattle.std.proofs.Common.{rules, arith}
use Rattle.std.proofs.lemmas.Grind.{common_steps}
use Rattle.parse_spec.specs.Nested.{expr, declarator, specs}
use Rattle.parse_spec.specs.Declarators.{suffixes, suffixes_from}
use Rattle.parse_cursor.proofs.Turns.{one_more, no_more}
use Rattle.parse_declarators.proofs.nested.Declarators.suffixes.Goals as goal

pub loop-turn-init : goal.loop-turn-init
unfolding suffixes
loop-turn-init g c = first_of (search rules, grind (arith, common_steps))

pub returns-then-not-is_suffix : goal.returns-then-not-is_suffix
unfolding suffixes_from
returns-then-not-is_suffix g c =
    let e = one_more (λ n. suffixes_from (expr c.args.self.now.depth) (declarator c.args.self.now.depth) (specs c.args.self.now.depth) n c.loop-turn.inner
    c.loop-turn.tokens) _ c.loop-turn._turn c.loop-turn-test.true c.loop-turn.invariant in
    first_of (search rules, grind (arith, common_steps))

pub returns-in_err-inner : goal.returns-in_err-inner
unfolding suffixes_from
returns-in_err-inner g c =
    let e = one_more (λ n. suffixes_from (expr c.args.self.now.depth) (declarator c.args.self.now.depth) (specs c.args.self.now.depth) n c.loop-turn.inner
    c.loop-turn.tokens) _ c.loop-turn._turn c.loop-turn-test.true c.loop-turn.invariant in
    first_of (search rules, grind (arith, common_steps))

pub loop-turn-preserved : goal.loop-turn-preserved
unfolding suffixes_from
loop-turn-preserved g c =
    let e = one_more (λ n. suffixes_from (expr c.args.self.now.depth) (declarator c.args.self.now.depth) (specs c.args.self.now.depth) n c.loop-turn.inner
    c.loop-turn.tokens) _ c.loop-turn._turn c.loop-turn-test.true c.loop-turn.invariant in
    first_of (search rules, grind (arith, common_steps))

pub returns : goal.returns
unfolding suffixes_from
returns g c =
    let e = no_more (λ n. suffixes_from (expr c.args.self.now.depth) (declarator c.args.self.now.depth) (specs c.args.self.now.depth) n c.loop-turn.inner
    c.loop-turn.tokens) _ c.loop-turn._turn c.loop-turn-test.false c.loop-turn.invariant in
    first_of (search rules, grind (arith, common_steps))
