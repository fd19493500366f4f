use Rattle.std.proofs.Common.{arith, ◌∙◌, sym}
use Rattle.evaluation_log.proofs.LooseWholeLemmas.{if_some_by, last_set, first_set}
use Rattle.run_evaluations.proofs.open.Evaluations.only_loose_foot.Goals as goal

pub returns-then-has_last_all-clause-has : goal.returns-then-has_last_all-clause-has
returns-then-has_last_all-clause-has c =
    let a = c.args.self.now in
    if_some_by _ c.take_loose_foot.result (λ f e r.
    last_set a.segments.items a.events.items a.items.items a.loose.items a.levels.items r c.args.at f (c.has_last_all.ensures c.if-has_last_all.true)
    (sym c.take_loose_foot.ensures.given ∙ e))

pub returns-then-has_first_all-clause-has : goal.returns-then-has_first_all-clause-has
returns-then-has_first_all-clause-has c =
    let a = c.args.self.now in
    if_some_by _ c.take_loose_foot_at.result (λ f e r.
    first_set a.segments.items a.events.items a.items.items a.loose.items a.levels.items r c.args.at f (c.has_first_all.ensures c.if-has_first_all.true)
    (sym c.take_loose_foot_at.ensures.given ∙ e))

pub returns-then-has_last_all-clause-others : goal.returns-then-has_last_all-clause-others
returns-then-has_last_all-clause-others c = λ g less.
    c.take_loose_foot.ensures.others g (omega (arith, less, c.requires, c.args.self.now.segments.ok.0))

pub returns-then-has_first_all-clause-others : goal.returns-then-has_first_all-clause-others
returns-then-has_first_all-clause-others c = λ g less. c.take_loose_foot_at.ensures.others g (λ e. omega (arith, e, less))
