use Rattle.std.proofs.Common.{◌≡◌, false, sym}
use Rattle.static_places.specs.Preorder.{nodes_of}
use Rattle.static_seq.specs.Accesses.{accesses_from, some_writes}
use Rattle.static_seq.proofs.Steps.{only_reads}
use Rattle.static_seq.proofs.examined.unparted.Goals as goal

pub returns-then-not-some_writes : goal.returns-then-not-some_writes
returns-then-not-some_writes c = λ counts.
    let p = c.args.p.now in
    let function = c.args.function in
    let all = accesses_from p function 0 (nodes_of c.args.root.now) in
    let reads : some_writes all ≡ false = cc (
      c.in_ok-accesses.ensures,
      c.in_ok-nodes.ensures.nodes,
      c.deref.ensures.value,
      c.deref-2.ensures.value,
      c.some_writes.ensures,
      c.if-not-some_writes.true,
    ) in
    sym (only_reads p function c.args.root.now all reads)
