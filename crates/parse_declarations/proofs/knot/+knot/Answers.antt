use Rattle.std.proofs.Common.{◌≡◌, ap, arith}
use Rattle.parse_cursor.proofs.Turns.{deeper}
use Rattle.parse_cursor.specs.Places.{mode_of, allowed_in}
use Rattle.parse_spec.specs.Nested.{expr, declarator, specs}
use Rattle.parse_declarations.proofs.knot.+knot.Goals as goal

pub expr-returns-then-depth-eq0 : goal.expr-returns-then-depth-eq0
unfolding expr
expr-returns-then-depth-eq0 t c _ = let none : c.args.depth ≡ 0 = omega arith in ap (λ n. expr n c.args.least c.args.tokens.now) none

pub expr-returns : goal.expr-returns
unfolding expr
expr-returns t c = rw (deeper (λ n. expr n c.args.least c.args.tokens.now) c.args.depth (omega arith)) c.level.ensures

pub declarator-returns-then-depth-eq0 : goal.declarator-returns-then-depth-eq0
unfolding expr
declarator-returns-then-depth-eq0 t c _ =
    let none : c.args.depth ≡ 0 = omega arith in ap (λ n. declarator n (mode_of c.args.mode) c.args.tokens.now) none

pub declarator-returns : goal.declarator-returns
unfolding expr
declarator-returns t c =
    rw (deeper (λ n. declarator n (mode_of c.args.mode) c.args.tokens.now) c.args.depth (omega arith)) c.one_declarator.ensures

pub specs-returns-then-depth-eq0 : goal.specs-returns-then-depth-eq0
unfolding expr
specs-returns-then-depth-eq0 t c _ = let none : c.args.depth ≡ 0 = omega arith in ap (λ n. specs n (allowed_in c.args.place) c.args.tokens.now) none

pub specs-returns : goal.specs-returns
unfolding expr
specs-returns t c = rw (deeper (λ n. specs n (allowed_in c.args.place) c.args.tokens.now) c.args.depth (omega arith)) c.specifiers.ensures
