use Rattle.std.proofs.Common.{◌≡◌, ◌-◌, []}
use Rattle.parse_spec.specs.Nested.{expr, declarator, specs}
use Rattle.parse_spec.specs.Specifiers.{members_from}
use Rattle.parse_spec.specs.Steps.{turns}
use Rattle.parse_declarators.proofs.nested.Declarators.members.Given as goal

abbrev pub invariant-loop-turn : goal.invariant-loop-turn
invariant-loop-turn g l = members_from (expr l.self.depth) (declarator l.self.depth) (specs l.self.depth) (turns l.fn.tokens) [] l.fn.tokens ≡ members_from
    (expr l.self.depth) (declarator l.self.depth) (specs l.self.depth) (l._turn-end - l._turn) l.found l.tokens
