use Rattle.std.proofs.Common.{◌≡◌, drop, Some}
use Rattle.c_types.specs.Table.{look}
use Rattle.c_types.specs.Layout.{members_extent, no_members}
use Rattle.c_types.specs.Layout.{IsSound}
use Rattle.c_types.proofs.members.members_extent.Given as goal

-- what is left behind what is placed makes the whole
abbrev pub invariant-loop-member : goal.invariant-loop-member
invariant-loop-member l = record {
  rest : members_extent l.kind (look l.rows) (Some l.before) (drop l.member-index l.members) ≡ members_extent l.kind (look l.rows) (Some no_members) l.members;
  sound : IsSound l.before;
}
