use Rattle.std.proofs.Common.{◌≡◌, ◌-◌}
use Rattle.parse_spec.specs.Nested.{expr, declarator, specs}
use Rattle.parse_spec.specs.Declarators.{suffixes, suffixes_from}
use Rattle.parse_declarators.proofs.nested.Declarators.suffixes.Given as goal

abbrev pub invariant-loop-turn : goal.invariant-loop-turn
invariant-loop-turn g l = suffixes (expr l.self.depth) (declarator l.self.depth) (specs l.self.depth) l.fn.inner l.fn.tokens ≡ suffixes_from
    (expr l.self.depth) (declarator l.self.depth) (specs l.self.depth) (l._turn-end - l._turn) l.inner l.tokens
