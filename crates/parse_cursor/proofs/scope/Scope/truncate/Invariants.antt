use Rattle.std.proofs.Common.{◌≡◌, ◌≤◌, length, take, min}
use Rattle.parse_cursor.proofs.scope.Scope.truncate.Given as goal

abbrev pub invariant-loop-self : goal.invariant-loop-self
invariant-loop-self l = record {
  count : l.self.count ≡ l.fn.self.count;
  front : l.self.names ≡ take (length l.self.names) l.fn.self.names;
  enough : min l.count (length l.fn.self.names) ≤ length l.self.names;
  within : length l.self.names ≤ length l.fn.self.names;
}

abbrev pub decreases-loop-self : goal.decreases-loop-self
decreases-loop-self l = length l.self.names
