use Rattle.std.proofs.lemmas.Cmp.{nat_cmp_total}
use Rattle.footprint.proofs.BetweenLemmas.{grown_key}
use Rattle.footprint.proofs.SetLemmas.{key_turn}
use Rattle.footprint.proofs.sets.merge_lookups.Goals as goal

pub loop-addr-preserved : goal.loop-addr-preserved
loop-addr-preserved c = record {
  whole = λ a. key_turn nat_cmp_total a c.in-Some.addr.now c.loop-addr.addr-iterator c.next.new.self _ _ _ c.in-Some.ensures.steps
      (c.in_ok-insert.ensures.updates.0 a) (c.loop-addr.invariant.whole a);
  grown = λ a. grown_key _ _ _ _ (c.in_ok-insert.ensures.updates.0 a) (c.loop-addr.invariant.grown a);
}
