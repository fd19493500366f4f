use Rattle.std.proofs.Common.{◌∙◌, arith}
use Rattle.run_evaluations.proofs.LooseWholeLemmas.{listed_after}
use Rattle.run_evaluations.proofs.open.Evaluations.list_effect.Goals as goal

pub returns-clause-listed : goal.returns-clause-listed
returns-clause-listed c =
    let t = c.take_loose_foot-foot.ensures in
    let p = c.put_loose_foot.ensures in
    let f = c.in_ok-foot.ensures in
    listed_after c.args.self.now c.take_loose_foot-foot.new.self c.put_loose_foot.new.self c.saturating_sub-at.result c.take_loose_foot-foot.result
    c.in_ok-foot.foot
    (omega (arith, c.saturating_sub-at.ensures, c.len.ensures, c.args.self.now.events.ok.0)) (t.loose ∙ c.in_ok-push.ensures.items)
    t.rest.events t.rest.items t.count t.lows t.others t.given p.loose p.lows p.others p.below f
