use Rattle.std.proofs.Common.{◌≡◌, ◌+◌, ◌≤◌, ◌++◌, length, map, reverse}
use Rattle.type_name_space.specs.Scopes.{left}
use Rattle.type_name_space.specs.Links.{declared_of}
use Rattle.type_name_space.proofs.space.Space.lift.Given as goal

-- what is to be left doesn't change, a declaration a turn is gone, and those that are gone stand in the answer
abbrev pub invariant-loop-turn : goal.invariant-loop-turn
invariant-loop-turn g l = record {
  rest : left l.depth l.self ≡ left l.depth l.fn.self;
  fewer : length l.self + l.turn ≤ length l.fn.self;
  gone : l.fn.self ≡ l.self ++ reverse (map declared_of l.lifted.items);
}
