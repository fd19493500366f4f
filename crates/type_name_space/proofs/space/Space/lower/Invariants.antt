use Rattle.std.proofs.Common.{◌≡◌, ◌+◌, ◌≤◌, ◌++◌, length, map, reverse}
use Rattle.type_name_space.specs.Scopes.{put_at, IsFront}
use Rattle.type_name_space.specs.Links.{declared_of}
use Rattle.type_name_space.proofs.space.Space.lower.Given as goal

-- what is declared, and what is still to be
abbrev pub invariant-loop-turn : goal.invariant-loop-turn
invariant-loop-turn g l = record {
  all : l.self ++ map (put_at l.depth) (reverse (map declared_of l.lifted.items)) ≡ l.fn.self ++
      map (put_at l.depth) (reverse (map declared_of l.fn.lifted.items));
  grown : IsFront l.fn.self l.self;
  fewer : length l.lifted.items + l.turn ≤ length l.fn.lifted.items;
}
