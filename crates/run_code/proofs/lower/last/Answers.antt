use Rattle.std.proofs.Common.{rules, ◌≡◌, ◌-◌, length, ap, ◌∙◌}
use Rattle.run_layout.specs.Resolved.{value_at}
use Rattle.run_code.proofs.Picked.{last_at}
use Rattle.run_code.proofs.lower.last.Goals as goal

pub returns : goal.returns
returns c =
    let place : c.saturating_sub.result ≡ length c.args.operands.now - 1 = search rules in
    c.at.ensures ∙ ap (value_at c.args.operands.now) place ∙ last_at c.args.operands.now
