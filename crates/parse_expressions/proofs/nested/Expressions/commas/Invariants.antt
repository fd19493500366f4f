use Rattle.std.proofs.Common.{◌≡◌, ◌-◌}
use Rattle.parse_spec.specs.Expressions.{commas, commas_from}
use Rattle.parse_spec.specs.Nested.{expr, declarator, specs}
use Rattle.parse_expressions.proofs.nested.Expressions.commas.Given as goal

abbrev pub invariant-loop-turn : goal.invariant-loop-turn
invariant-loop-turn g l = commas (expr l.self.depth) (declarator l.self.depth) (specs l.self.depth) l.at l.fn.first l.fn.tokens ≡ commas_from
    (expr l.self.depth) (declarator l.self.depth) (specs l.self.depth) l.at (l._turn-end - l._turn) l.found l.tokens
