use Rattle.std.proofs.Common.{◌≡◌, ◌∙◌, ap, rules, arith}
use Rattle.std.proofs.lemmas.Grind.{common_steps}
use Rattle.parse_cursor.proofs.Turns.{one_more, no_more, deeper}
use Rattle.parse_spec.specs.Initializers.{initializer, one_initializer, initializer_at, entries_from}
use Rattle.parse_declarations.proofs.Steps.{entries_more}
use Rattle.parse_declarations.proofs.initializer.+init.Goals as goal

pub init_entries-returns-in_err-found : goal.init_entries-returns-in_err-found
init_entries-returns-in_err-found t c =
    let e = one_more (λ n. entries_from (initializer c.args.depth) n c.loop-turn.found c.loop-turn.tokens) _ c.loop-turn._turn c.loop-turn-test.true
    c.loop-turn.invariant
    ∙ entries_more (initializer c.args.depth) _ c.loop-turn.found c.loop-turn.tokens in
    first_of (search rules, grind (arith, common_steps))

pub init_entries-returns-then-not-eat : goal.init_entries-returns-then-not-eat
init_entries-returns-then-not-eat t c =
    let e = one_more (λ n. entries_from (initializer c.args.depth) n c.loop-turn.found c.loop-turn.tokens) _ c.loop-turn._turn c.loop-turn-test.true
    c.loop-turn.invariant
    ∙ entries_more (initializer c.args.depth) _ c.loop-turn.found c.loop-turn.tokens in
    first_of (search rules, grind (arith, common_steps))

pub init_entries-returns-then-eat : goal.init_entries-returns-then-eat
init_entries-returns-then-eat t c =
    let e = one_more (λ n. entries_from (initializer c.args.depth) n c.loop-turn.found c.loop-turn.tokens) _ c.loop-turn._turn c.loop-turn-test.true
    c.loop-turn.invariant
    ∙ entries_more (initializer c.args.depth) _ c.loop-turn.found c.loop-turn.tokens in
    first_of (search rules, grind (arith, common_steps))

pub init_entries-loop-turn-preserved : goal.init_entries-loop-turn-preserved
init_entries-loop-turn-preserved t c =
    let e = one_more (λ n. entries_from (initializer c.args.depth) n c.loop-turn.found c.loop-turn.tokens) _ c.loop-turn._turn c.loop-turn-test.true
    c.loop-turn.invariant
    ∙ entries_more (initializer c.args.depth) _ c.loop-turn.found c.loop-turn.tokens in
    first_of (search rules, grind (arith, common_steps))

pub init_entries-returns : goal.init_entries-returns
unfolding entries_from
init_entries-returns t c =
    let e = no_more (λ n. entries_from (initializer c.args.depth) n c.loop-turn.found c.loop-turn.tokens) _ c.loop-turn._turn c.loop-turn-test.false
    c.loop-turn.invariant in
    first_of (search rules, grind (arith, common_steps))

pub initializer-returns-then-depth-eq0 : goal.initializer-returns-then-depth-eq0
unfolding initializer
initializer-returns-then-depth-eq0 t c _ = let none : c.args.depth ≡ 0 = omega arith in ap (λ n. initializer n c.args.tokens.now) none

pub initializer-returns-in_err-entries : goal.initializer-returns-in_err-entries
unfolding initializer one_initializer initializer_at
initializer-returns-in_err-entries t c =
    let e = deeper (λ n. initializer n c.args.tokens.now) c.args.depth (omega arith) in first_of (search rules, grind (arith, common_steps))

pub initializer-returns-then-eat : goal.initializer-returns-then-eat
unfolding initializer one_initializer initializer_at
initializer-returns-then-eat t c =
    let e = deeper (λ n. initializer n c.args.tokens.now) c.args.depth (omega arith) in first_of (search rules, grind (arith, common_steps))

pub initializer-returns-in_err-expr : goal.initializer-returns-in_err-expr
unfolding initializer one_initializer initializer_at
initializer-returns-in_err-expr t c =
    let e = deeper (λ n. initializer n c.args.tokens.now) c.args.depth (omega arith) in first_of (search rules, grind (arith, common_steps))

pub initializer-returns : goal.initializer-returns
unfolding initializer one_initializer initializer_at
initializer-returns t c =
    let e = deeper (λ n. initializer n c.args.tokens.now) c.args.depth (omega arith) in first_of (search rules, grind (arith, common_steps))
