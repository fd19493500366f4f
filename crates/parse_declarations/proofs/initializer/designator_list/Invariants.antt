use Rattle.std.proofs.Common.{◌≡◌, ◌-◌, []}
use Rattle.parse_spec.specs.Initializers.{designators_from}
use Rattle.parse_spec.specs.Steps.{turns}
use Rattle.parse_declarations.proofs.initializer.designator_list.Given as goal

abbrev pub invariant-loop-turn : goal.invariant-loop-turn
invariant-loop-turn l = designators_from (turns l.fn.tokens) [] l.fn.tokens ≡ designators_from (l._turn-end - l._turn) l.found l.tokens
