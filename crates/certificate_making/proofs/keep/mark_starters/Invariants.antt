-- Going on from here gives the marks of all.
use Rattle.std.proofs.Common.{◌≡◌, ◌-◌, length}
use Rattle.certificate_making.specs.Marking.{mark_starters}
use Rattle.certificate_making.proofs.keep.mark_starters.Given as goal

abbrev pub invariant-loop-below : goal.invariant-loop-below
invariant-loop-below l = mark_starters l.frames (length l.frames - l.below) l.marks ≡ mark_starters l.frames (length l.frames) l.fn.marks
