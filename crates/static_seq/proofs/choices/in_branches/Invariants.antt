use Rattle.std.proofs.Common.{◌≡◌, drop}
use Rattle.static_places.specs.Preorder.{trees_at}
use Rattle.static_seq.specs.Choices.{in_branches}
use Rattle.static_seq.proofs.choices.in_branches.Given as goal

abbrev pub invariant-loop-node : goal.invariant-loop-node
invariant-loop-node l = in_branches (trees_at (drop l.node-index l.nodes)) l.number l.u l.v ≡ in_branches (trees_at l.nodes) 0 l.u l.v
