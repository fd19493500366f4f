use Rattle.std.proofs.Common.{◌≡◌, ◌-◌}
use Rattle.parse_spec.specs.Expressions.{posts, posts_from}
use Rattle.parse_spec.specs.Nested.{expr, declarator, specs}
use Rattle.parse_expressions.proofs.nested.Expressions.posts.Given as goal

abbrev pub invariant-loop-turn : goal.invariant-loop-turn
invariant-loop-turn g l = posts (expr l.self.depth) (declarator l.self.depth) (specs l.self.depth) l.at l.fn.left l.fn.tokens ≡ posts_from (expr l.self.depth)
    (declarator l.self.depth) (specs l.self.depth) l.at (l._turn-end - l._turn) l.left l.tokens
