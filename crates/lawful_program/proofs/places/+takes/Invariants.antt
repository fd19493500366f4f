use Rattle.std.proofs.Common.{◌+◌, ◌*◌}
use Rattle.lawful_program.proofs.places.+takes.Given as goal

abbrev pub decreases-type_takes : goal.decreases-type_takes
decreases-type_takes l = 3 * l.depth + 1

abbrev pub decreases-tag_takes : goal.decreases-tag_takes
decreases-tag_takes l = 3 * l.depth

abbrev pub decreases-member_takes : goal.decreases-member_takes
decreases-member_takes l = 3 * l.depth + 2
