use Rattle.std.proofs.Common.{⊎_elim, ◌-◌, ◌∙◌, ap, arith}
use Rattle.std.specs.Prelude.{slice_get}
use Rattle.std.proofs.lemmas.Option.{slice_get_within}
use Rattle.evaluation_log.proofs.KeptLemmas.{before_or_past}
use Rattle.run_evaluations.proofs.open.Evaluations.first_above.Goals as goal

pub loop-i-init : goal.loop-i-init
loop-i-init c = record {
  at = omega arith;
  behind = λ k s le at. absurd (
      let w = slice_get_within c.args.self.now.segments.items k s at in
      let n = c.len-at.ensures ∙ c.args.self.now.segments.ok.0 in
      omega (arith, w, n, le));
}

pub loop-i-preserved : goal.loop-i-preserved
loop-i-preserved c = record {
  at = omega arith;
  behind = λ k s le at.
      ⊎_elim (λ low. c.is_up_to.ensures.no c.if-is_up_to.false s
      (ap (slice_get c.args.self.now.segments.items) (let e = c.loop-i.invariant.at in omega (arith, e, le, low)) ∙ at))
      (λ high. c.loop-i.invariant.behind k s high at)
      (before_or_past k c.loop-i.at);
}

pub returns-then-is_up_to-clause-least : goal.returns-then-is_up_to-clause-least
returns-then-is_up_to-clause-least c = λ g le all.
    let e = c.loop-i.invariant.at in
    ⊎_elim (λ low. absurd (c.is_up_to.ensures.yes c.if-is_up_to.true (λ s there. all (c.loop-i.i - 1) s (omega (arith, low)) there)))
    (λ high. omega (arith, e, high))
    (before_or_past g c.loop-i.i)

pub returns-clause-least : goal.returns-clause-least
returns-clause-least c = λ g le all. let e = c.loop-i.invariant.at in omega (arith, e, le, c.loop-i-test.false)
