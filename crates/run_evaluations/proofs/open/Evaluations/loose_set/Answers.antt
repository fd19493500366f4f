use Rattle.std.proofs.Common.{ℕ, List, IfOk, subst}
use Rattle.ub_base.specs.declared.names.Item.{Item}
use Rattle.evaluation_log.specs.declared.log.Logged.{Logged}
use Rattle.evaluation_log.specs.Loose.{HasLoose}
use Rattle.run_evaluations.proofs.open.Evaluations.loose_set.Goals as goal

pub returns : goal.returns
returns c =
    let o = c.args.self.now in
    let g = c.as_log.result in
    subst (λ (xs : List Logged). IfOk c.loose_set.result (HasLoose xs o.items.items o.loose.items c.args.loose)) c.as_log.ensures.events
    (subst (λ (xs : List Item). IfOk c.loose_set.result (HasLoose g.events.now xs o.loose.items c.args.loose)) c.as_log.ensures.items
    (subst (λ (xs : List ℕ). IfOk c.loose_set.result (HasLoose g.events.now g.items.now xs c.args.loose)) c.as_log.ensures.loose c.loose_set.ensures))
