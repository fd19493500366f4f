use Rattle.std.proofs.Common.{◌^◌, ◌<◌, length}
use Rattle.static_places.specs.Preorder.{trees_at}
use Rattle.seq_order.specs.Marked.{taken_in}
use Rattle.static_seq.proofs.Sparing.{SparedTo}
use Rattle.static_seq.proofs.choices.spared.Given as goal

-- the choices of the nodes so far
abbrev pub invariant-loop-node : goal.invariant-loop-node
invariant-loop-node l = length l.nodes < 2 ^ 32 → SparedTo (trees_at l.nodes) l.u l.v (taken_in l.taken) l.number l.node-index
