use Rattle.std.proofs.Common.{arith, ◌-◌, length, ◌∙◌}
use Rattle.evaluation_log.proofs.WholeLemmas.{base_below}
use Rattle.run_evaluations.proofs.open.Evaluations.ends_with_effect.Goals as goal

pub returns-clause-top : goal.returns-clause-top
returns-clause-top c = λ h w.
    let n = c.len.ensures ∙ c.args.self.now.segments.ok.0 in
    let b = c.base.ensures in (
      length c.args.self.now.segments.items - 1,
      omega (arith, n, b, c.if-len-base.false),
      λ d x k. let r = base_below c.args.self.now.segments.items c.args.self.now.events.items c.args.self.now.items.items c.args.self.now.large.items
          c.args.self.now.levels.items w d x k in omega (arith, r, n, b, c.if-len-base.false),
    )

pub returns-clause-no : goal.returns-clause-no
returns-clause-no c = λ h base u at same. c.is_effect_last.ensures h u at same
