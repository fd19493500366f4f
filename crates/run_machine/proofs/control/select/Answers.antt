use Rattle.std.proofs.Common.{◌≡◌, ◌∙◌, rules, to_z, of_z}
use Rattle.std.specs.Int.{w128}
use Rattle.std.proofs.lemmas.Int.{to_z-of_z}
use Rattle.run_machine.proofs.Selecting.{cases_in, selected_ok}
use Rattle.run_machine.proofs.control.select.Goals as goal

pub returns-clause-selects : goal.returns-clause-selects
returns-clause-selects c =
    let same : to_z w128 (of_z w128 c.integer-value.result) ≡ c.integer-value.result = to_z-of_z w128 c.integer-value.result (search rules) in
    selected_ok c.select.result c.args.machine.now c.select.new.self c.args.switch c.args.operand (to_z w128 (of_z w128 c.integer-value.result))
    c.in_ok-target.target c.deref.result.now c.deref.ensures.value (λ h is k. same ∙ c.integer-value.ensures h is k)
    (cases_in c.args.machine.now c.args.machine.now.top.function c.in-Some.function c.args.switch (to_z w128 (of_z w128 c.integer-value.result))
    c.in_ok-target.target c.in-Some.is c.in_ok-target.ensures)
    c.select.ensures.below c.select.ensures.now
