use Rattle.std.proofs.Common.{◌≡◌, ◌-◌}
use Rattle.parse_spec.specs.Expressions.{argument_list, arguments_from}
use Rattle.parse_spec.specs.Nested.{expr, declarator, specs}
use Rattle.parse_expressions.proofs.nested.Expressions.argument_list.Given as goal

abbrev pub invariant-loop-turn : goal.invariant-loop-turn
invariant-loop-turn g l = argument_list (expr l.self.depth) (declarator l.self.depth) (specs l.self.depth) l.fn.tokens ≡ arguments_from (expr l.self.depth)
    (declarator l.self.depth) (specs l.self.depth) (l._turn-end - l._turn) l.found l.tokens
