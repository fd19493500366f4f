use Rattle.std.proofs.Common.{below_more, ◌∙◌, sym, arith}
use Rattle.evaluation_log.proofs.BetweenLemmas.{same_le}
use Rattle.run_evaluations.proofs.EndLemmas.{value_here, value_nowhere}
use Rattle.run_evaluations.proofs.open.Evaluations.done.Goals as goal

pub loop-at-init : goal.loop-at-init
loop-at-init c = λ i less le. absurd (let e = c.events_from-from.ensures in omega (arith, e, less, le))

pub loop-at-preserved : goal.loop-at-preserved
loop-at-preserved c = below_more _ _ c.loop-at.invariant (λ le. sym c.is_value.ensures ∙ c.if-is_value.false)

pub returns-then-is_value-clause-here : goal.returns-then-is_value-clause-here
returns-then-is_value-clause-here c =
    let e = c.events_from-from.ensures in
    let a = c.loop-at.auto.at in
    record {
      low = omega (arith, e, a);
      value = sym c.is_value.ensures ∙ c.if-is_value.true;
      first = λ i le less. c.loop-at.invariant i less le;
    }

pub returns-then-is_value-clause-found : goal.returns-then-is_value-clause-found
returns-then-is_value-clause-found c = λ k done.
    let e = c.events_from-from.ensures in
    value_here c.args.self.now c.args.node c.loop-at.at k c.loop-at.invariant (let a = c.loop-at.auto.at in omega (arith, e, a))
    (sym c.is_value.ensures ∙ c.if-is_value.true) done

pub returns-clause-found : goal.returns-clause-found
returns-clause-found c = λ k done.
    let past = same_le _ _ (c.len-at-end.ensures ∙ c.args.self.now.events.ok.0) in
    value_nowhere c.args.self.now c.args.node c.loop-at.at k _ c.loop-at.invariant (omega (arith, past, c.loop-at-test.false)) done
