use Rattle.std.proofs.Common.{◌≡◌, ◌+◌, ◌-◌, ◌*◌, drop}
use Rattle.std.specs.Option.{option_map}
use Rattle.layout.specs.Names.{member_names, names_by, named}
use Rattle.layout.specs.Listed.{nearer}
use Rattle.layout.proofs.member_names.+within.Given as goal

abbrev pub decreases-find_within : goal.decreases-find_within
decreases-find_within l = 3 * l.depth

abbrev pub decreases-found_at : goal.decreases-found_at
decreases-found_at l = 3 * l.depth + 2

abbrev pub decreases-find_inside : goal.decreases-find_inside
decreases-find_inside l = 3 * l.depth + 1

-- what is left decides
abbrev pub invariant-find_within-loop-i : goal.invariant-find_within-loop-i
invariant-find_within-loop-i l =
    option_map nearer (named l.name (member_names (names_by (l.depth - 1) l.tags) l.tags l.tag l.i (drop l.i l.members)))
    ≡ option_map nearer (named l.name (names_by l.depth l.tags l.tag))
