use Rattle.std.proofs.Common.{◌≡◌, ◌++◌, drop}
use Rattle.run_control.specs.Links.{blocks_in}
use Rattle.run_control.proofs.jumps.blocks_of.Given as goal

abbrev pub invariant-loop-work : goal.invariant-loop-work
invariant-loop-work l = l.blocks.items ++ blocks_in (drop l.work-index l.works) ≡ blocks_in l.works
