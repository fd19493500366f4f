use Rattle.std.proofs.Common.{◌≡◌, ◌+◌, ◌≤◌, drop}
use Rattle.type_scope.specs.Strings.{strings_of}
use Rattle.type_scope.proofs.source.strings_from.Given as goal

abbrev pub invariant-loop-at : goal.invariant-loop-at
invariant-loop-at l = (l.count ≤ l.at) × (l.count + strings_of (drop l.at l.tokens.list) ≡ strings_of (drop l.first l.tokens.list))
