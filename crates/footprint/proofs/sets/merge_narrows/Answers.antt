use Rattle.footprint.proofs.BetweenLemmas.{grown_key}
use Rattle.footprint.proofs.SetLemmas.{key_turn, narrow_total}
use Rattle.footprint.proofs.sets.merge_narrows.Goals as goal

pub loop-narrow-preserved : goal.loop-narrow-preserved
loop-narrow-preserved c = record {
  whole = λ k. key_turn narrow_total k c.in-Some.narrow.now c.loop-narrow.narrow-iterator c.next.new.self _ _ _ c.in-Some.ensures.steps
      (c.in_ok-insert.ensures.updates.0 k) (c.loop-narrow.invariant.whole k);
  grown = λ k. grown_key _ _ _ _ (c.in_ok-insert.ensures.updates.0 k) (c.loop-narrow.invariant.grown k);
}
