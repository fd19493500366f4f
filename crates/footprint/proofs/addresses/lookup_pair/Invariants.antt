use Rattle.footprint.proofs.Loops.{Goes}
use Rattle.footprint.proofs.PairLemmas.{OneLookup}
use Rattle.footprint.proofs.addresses.lookup_pair.Given as goal

abbrev pub invariant-loop-addr : goal.invariant-loop-addr
invariant-loop-addr l = Goes l.frames (OneLookup l.a l.b l.map) l.a.lookups.keys l.addr-iterator l.best
