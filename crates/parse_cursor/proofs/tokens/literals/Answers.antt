use Rattle.std.proofs.Common.{◌≡◌, ℕ, ◌-◌, ◌+◌, ◌<◌, true, false, Some, ap, subst, sym, ◌∙◌, arith}
use Rattle.parse_spec.specs.Steps.{strings_from, is_string}
use Rattle.c_ast.specs.Input.{kind}
use Rattle.parse_cursor.proofs.Runs.{string_taken, string_here, strings_stop, strings_more}
use Rattle.parse_cursor.proofs.Turns.{one_more, no_more}
use Rattle.parse_cursor.proofs.tokens.literals.Goals as goal

pub loop-turn-preserved : goal.loop-turn-preserved
loop-turn-preserved c =
    let more : is_string (kind c.loop-turn.tokens) ≡ true = grind (arith, c.is_literal.ensures, c.peek.ensures, c.if-not-is_literal.false) in
    let is = string_here (kind c.loop-turn.tokens) more in
    let t = string_taken c.args.tokens.now c.loop-turn.tokens c.loop-turn._turn c.loop-turn.invariant.to c.loop-turn.invariant.literals is in
    record {
      begun = c.loop-turn.invariant.begun;
      to = c.take.ensures ∙ t.0;
      literals = t.1;
      read = one_more (λ n. strings_from n c.loop-turn._turn c.loop-turn.tokens) _ c.loop-turn._turn c.loop-turn-test.true c.loop-turn.invariant.read
          ∙ strings_more _ c.loop-turn._turn c.loop-turn.tokens is
          ∙ ap (strings_from (c.turns-turn-end.result - (c.loop-turn._turn + 1)) (c.loop-turn._turn + 1)) (sym c.take.ensures);
    }

pub returns-then-not-is_literal-clause-reads : goal.returns-then-not-is_literal-clause-reads
returns-then-not-is_literal-clause-reads c =
    let none : is_string (kind c.loop-turn.tokens) ≡ false = grind (arith, c.is_literal.ensures, c.peek.ensures, c.if-not-is_literal.true) in
    let moved = ap (λ i. i.at) c.loop-turn.invariant.to in
    let same : c.loop-turn._turn ≡ c.saturating_sub.result = omega (arith, moved) in
    one_more (λ n. strings_from n c.loop-turn._turn c.loop-turn.tokens) _ c.loop-turn._turn c.loop-turn-test.true c.loop-turn.invariant.read
    ∙ strings_stop _ c.loop-turn._turn c.loop-turn.tokens none ∙ ap (λ (n : ℕ). Some (n, c.loop-turn.tokens)) same

pub returns-clause-reads : goal.returns-clause-reads
unfolding strings_from
returns-clause-reads c =
    let moved = ap (λ i. i.at) c.loop-turn.invariant.to in
    let same : c.loop-turn._turn ≡ c.saturating_sub-2.result = omega (arith, moved) in
    no_more (λ n. strings_from n c.loop-turn._turn c.loop-turn.tokens) _ c.loop-turn._turn c.loop-turn-test.false c.loop-turn.invariant.read
    ∙ ap (λ (n : ℕ). Some (n, c.loop-turn.tokens)) same
