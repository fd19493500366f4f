use Rattle.std.proofs.Common.{◌≡◌, ◌++◌, ap, subst, ◌∙◌}
use Rattle.std.proofs.lemmas.Result.{IfOk-weaker}
use Rattle.run_layout.specs.AtOnce.{chosen_of, Lists}
use Rattle.run_code.proofs.FittingLemmas.{always}
use Rattle.run_code.proofs.draft.Draft.chosen.Goals as goal

pub returns-clause-fit : goal.returns-clause-fit
returns-clause-fit c = λ p h. always c.add_chosen.result _ (c.add_chosen.ensures.fit p h)

pub returns-clause-chosen : goal.returns-clause-chosen
returns-clause-chosen c = λ firsts parent noted here.
    let all = chosen_of firsts c.args.root.now c.args.number in
    let same : c.deref.result.now ≡ all =
    c.deref.ensures.value ∙ (c.in_ok-chosen_at_once.ensures firsts parent noted here ∙ ap (λ z. z ++ all) c.new-chosen.ensures.items) in
    IfOk-weaker c.add_chosen.result _ _ (λ r l. subst (Lists c.add_chosen.new.self.tables.chosen.items r) same l) c.add_chosen.ensures.lists
