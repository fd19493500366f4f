use Rattle.std.proofs.Common.{◌≡◌, ◌++◌, drop}
use Rattle.static_places.specs.Preorder.{trees_at}
use Rattle.static_seq.specs.Accesses.{accesses_from}
use Rattle.static_seq.proofs.accesses.accesses_of.Given as goal

-- the accesses so far, and those of the nodes that are left
abbrev pub invariant-loop-node : goal.invariant-loop-node
invariant-loop-node l =
    l.accesses.items ++ accesses_from l.p l.function l.number (trees_at (drop l.node-index l.nodes)) ≡ accesses_from l.p l.function 0 (trees_at l.nodes)
