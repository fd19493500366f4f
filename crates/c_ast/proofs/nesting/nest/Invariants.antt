use Rattle.std.proofs.Common.{◌≡◌, ◌≤◌, ◌*◌, max, drop}
use Rattle.c_ast.specs.Nest.{nest_of, greatest, total_of}
use Rattle.c_ast.proofs.nesting.nest.Given as goal

abbrev pub invariant-loop-at : goal.invariant-loop-at
invariant-loop-at l = record {
  exact : nest_of l.tokens.list ≡ max l.greatest (greatest l.nesting (drop l.at l.tokens.list));
  within : total_of l.nesting ≤ l.greatest;
  small : l.greatest ≤ 4 * l.at;
}
