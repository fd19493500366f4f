use Rattle.std.proofs.Common.{◌≡◌, ℕ, false, length, get_or}
use Rattle.parse_cursor.proofs.scope.no_typedefs.Given as goal

abbrev pub invariant-loop-name : goal.invariant-loop-name
invariant-loop-name l = record {
  count : length l.typedefs.items ≡ l._name;
  all : (k : ℕ) → get_or l.typedefs.items k false ≡ false;
}
