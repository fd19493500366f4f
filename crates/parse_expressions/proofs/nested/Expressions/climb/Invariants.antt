use Rattle.std.proofs.Common.{◌≡◌, ◌-◌}
use Rattle.parse_spec.specs.Expressions.{climbed, climb}
use Rattle.parse_spec.specs.Nested.{expr, declarator, specs}
use Rattle.parse_expressions.proofs.nested.Expressions.climb.Given as goal

abbrev pub invariant-loop-turn : goal.invariant-loop-turn
invariant-loop-turn g l = climbed (expr l.self.depth) (declarator l.self.depth) (specs l.self.depth) l.least l.at l.fn.lone l.fn.left l.fn.tokens ≡ climb
    (expr l.self.depth) (declarator l.self.depth) (specs l.self.depth) l.least l.at (l._turn-end - l._turn) l.lone l.left l.tokens
