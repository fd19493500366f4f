use Rattle.footprint.proofs.BetweenLemmas.{grown_or}
use Rattle.footprint.proofs.SpanBytes.{merge_turn, merge_end}
use Rattle.footprint.proofs.spans.Spans.merge.Goals as goal

pub returns-clause-ok : goal.returns-clause-ok
returns-clause-ok c = λ x i. merge_end c.loop-key.key-iterator x i _ _ c.in-None.ensures.steps.0 (c.loop-key.invariant.whole x i)

pub loop-key-preserved : goal.loop-key-preserved
loop-key-preserved c = record {
  whole = λ x i. merge_turn c.loop-key.key-iterator c.next.new.self (c.in-Some.key.now, c.in-Some.end.now) x i _ _ _ c.in-Some.ensures.steps
      (c.in_ok-add.ensures.added x i) (c.loop-key.invariant.whole x i);
  grown = λ x i. grown_or _ _ _ _ (c.in_ok-add.ensures.added x i) (c.loop-key.invariant.grown x i);
}
