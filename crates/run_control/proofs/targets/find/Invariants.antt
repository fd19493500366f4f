use Rattle.std.proofs.Common.{◌≡◌, List, map, drop}
use Rattle.run_control.specs.declared.links.Link.{Link}
use Rattle.run_control.specs.View.{Meaning}
use Rattle.run_control.specs.Targets.{seen, target_of}
use Rattle.run_control.specs.Search.{looked}
use Rattle.run_control.proofs.targets.find.Given as goal

abbrev pub invariant-loop-one : goal.invariant-loop-one
invariant-loop-one l = (m : Meaning) (links : List Link) →
    looked (target_of l.target) (map (seen m links) (drop l.one-index l.found)) ≡ looked (target_of l.target) (map (seen m links) l.found)
