use Rattle.std.proofs.Common.{◌≡◌, ◌+◌, ◌≤◌, length}
use Rattle.type_name_space.specs.Scopes.{left}
use Rattle.type_name_space.proofs.space.Space.leave.Given as goal

-- what is to be left doesn't change, and a declaration a turn is gone
abbrev pub invariant-loop-turn : goal.invariant-loop-turn
invariant-loop-turn g l = record {
  rest : left l.depth l.self ≡ left l.depth l.fn.self;
  fewer : length l.self + l.turn ≤ length l.fn.self;
}
