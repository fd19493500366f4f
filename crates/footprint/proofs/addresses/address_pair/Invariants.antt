use Rattle.footprint.proofs.Loops.{Goes}
use Rattle.footprint.proofs.ConflictLemmas.{OneAddress}
use Rattle.footprint.proofs.addresses.address_pair.Given as goal

abbrev pub invariant-loop-addr : goal.invariant-loop-addr
invariant-loop-addr l = Goes l.frames (OneAddress l.b l.map l.object l.state) l.b.lookups.keys l.addr-iterator l.best
