use Rattle.std.proofs.Common.{◌≡◌, length}
use Rattle.c_model.specs.Control.{unshared}
use Rattle.run_control.specs.View.{Meaning}
use Rattle.run_control.specs.Links.{outwards_in}
use Rattle.run_control.proofs.jumps.unshare.Given as goal

abbrev pub invariant-loop-a : goal.invariant-loop-a
invariant-loop-a l =
    ((m : Meaning) → unshared (outwards_in m l.left.items) (outwards_in m l.entered.items)
    ≡ unshared (outwards_in m l.initial.left.items) (outwards_in m l.initial.entered.items))
    × ((m : Meaning) → unshared (outwards_in m l.entered.items) (outwards_in m l.left.items)
    ≡ unshared (outwards_in m l.initial.entered.items) (outwards_in m l.initial.left.items))

abbrev pub decreases-loop-a : goal.decreases-loop-a
decreases-loop-a l = length l.left.items
