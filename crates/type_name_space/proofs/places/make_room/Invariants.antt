use Rattle.std.proofs.Common.{◌≡◌, ℕ, ◌≤◌, length, get_or}
use Rattle.type_name_space.proofs.places.make_room.Given as goal

-- as many places as turns are over, and none has changed
abbrev pub invariant-loop : goal.invariant-loop
invariant-loop l = record {
  room : l.counter ≤ length l.places.items;
  same : (s : ℕ) → get_or l.places.items s 0 ≡ get_or l.fn.places.items s 0;
}
