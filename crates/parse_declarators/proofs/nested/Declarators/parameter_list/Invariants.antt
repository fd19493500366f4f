use Rattle.std.proofs.Common.{◌≡◌, ◌-◌, []}
use Rattle.parse_spec.specs.Nested.{expr, declarator, specs}
use Rattle.parse_spec.specs.Declarators.{parameters_from}
use Rattle.parse_spec.specs.Steps.{turns}
use Rattle.parse_declarators.proofs.nested.Declarators.parameter_list.Given as goal

abbrev pub invariant-loop-turn : goal.invariant-loop-turn
invariant-loop-turn g l = parameters_from (expr l.self.depth) (declarator l.self.depth) (specs l.self.depth)
    (turns l.fn.tokens) [] l.fn.tokens ≡ parameters_from (expr l.self.depth) (declarator l.self.depth) (specs l.self.depth)
    (l._turn-end - l._turn) l.found l.tokens
