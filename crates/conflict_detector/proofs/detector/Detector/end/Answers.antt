use Rattle.std.proofs.Common.{◌∙◌, ◌-◌, refl, ap, subst, length, arith, ℕ}
use Rattle.elaborate.specs.Roots.{trees_at}
use Rattle.conflict_detector.proofs.RunEnds.{Ending, ending_more, ending_none, sees_end}
use Rattle.conflict_detector.proofs.detector.Detector.end.Goals as goal

pub loop-i-init : goal.loop-i-init
loop-i-init c =
    let bs = c.args.v.now.begun.now in
    let from = c.args.self.now.recorded - 1 in
    record {
      items = tt;
      apart = λ x e. absurd (cc);
      counts = refl;
      low = λ h. omega (arith, h);
      first = λ os r all.
          ending_none c.args.v.now.frames.now c.args.v.now.map.now c.args.roots.now bs from _ (length bs - from) os c.args.self.now r.known r.follows r.started
          all refl;
    }

pub loop-i-preserved : goal.loop-i-preserved
loop-i-preserved c =
    let bs = c.args.v.now.begun.now in
    let recorded = c.args.self.now.recorded in
    let from = recorded - 1 in
    let at = c.loop-i.i - 1 in
    let k = at - recorded in
    record {
      items = c.in_ok-best.ensures.conflict;
      apart = c.in_ok-best.ensures.apart c.loop-i.invariant.apart;
      counts = c.ended_at.ensures.counts ∙ c.loop-i.invariant.counts;
      low = λ h. omega (arith, h, c.loop-i-test.true);
      first = λ os r all.
          let some = r.some in
          ending_more c.args.v.now.frames.now c.args.v.now.map.now c.args.roots.now bs from (c.loop-i.i - from) _ k (length bs - from) at os c.loop-i.best
          c.in_ok-best.best c.loop-i.self c.ended_at.new.self _ (omega (arith, some, c.loop-i-test.true)) (omega (arith, some, c.loop-i-test.true))
          (omega (arith, some, c.loop-i-test.true))
          (λ b t ts there shown can right f. (
            c.in_ok-best.ensures.first b t ts there shown can right f,
            c.in_ok-best.ensures.follows b t ts there shown.numbered right f,
          )) refl c.in_ok-leave.ensures.below (c.loop-i.invariant.first os r all);
    }

pub returns-clause-apart : goal.returns-clause-apart
returns-clause-apart c = c.seen_of.ensures.apart (trees_at c.args.roots.now) (c.in_ok-best-2.ensures.apart c.loop-i.invariant.apart)

pub returns-clause-first : goal.returns-clause-first
returns-clause-first c = λ os r low all.
    let bs = c.args.v.now.begun.now in
    let recorded = c.args.self.now.recorded in
    let from = recorded - 1 in
    let some = r.some in
    let h = subst (λ (n : ℕ). Ending c.args.v.now.frames.now c.args.v.now.map.now c.args.roots.now bs from n (length bs - from) os c.loop-i.best c.loop-i.self)
    (let l = c.loop-i.invariant.low low in omega (arith, some, low, l, c.loop-i-test.false)) (c.loop-i.invariant.first os r all) in
    sees_end c.args.v.now.frames.now c.args.v.now.map.now c.args.roots.now bs from (length bs - from) _ os c.loop-i.best c.in_ok-best-2.best
    c.loop-i.self c.ended_at-2.new.self _ (c.saturating_sub-outermost.ensures ∙ ap (λ (n : ℕ). n - 1) c.loop-i.invariant.counts)
    (λ b t ts there shown can right f. (
      c.in_ok-best-2.ensures.first b t ts there shown can right f,
      c.in_ok-best-2.ensures.follows b t ts there shown.numbered right f,
    )) h c.seen_of.ensures.some c.seen_of.ensures.none
