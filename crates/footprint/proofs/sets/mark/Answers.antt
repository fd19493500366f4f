use Rattle.std.proofs.Common.{◌≡◌, ◌∙◌, sym, ap, true, rules}
use Rattle.footprint.specs.States.{either}
use Rattle.footprint.proofs.SetLemmas.{marked, unmarked}
use Rattle.footprint.proofs.sets.mark.Goals as goal

pub returns-then-eq-clause-marked : goal.returns-then-eq-clause-marked
returns-then-eq-clause-marked c =
    let same : c.eq.result ≡ true → c.or-new.result ≡ c.state_of-old.result = search rules in
    unmarked c.args.states.now c.args.object c.args.state
    (sym c.state_of-old.ensures ∙ sym (same c.if-eq.true) ∙ c.or-new.ensures ∙ ap (λ s. either s c.args.state) c.state_of-old.ensures)

pub returns-clause-marked : goal.returns-clause-marked
returns-clause-marked c =
    marked c.args.states.now c.insert.new.self c.args.object c.args.state c.or-new.result c.in_ok-insert.ensures.updates.0
    (c.or-new.ensures ∙ ap (λ s. either s c.args.state) c.state_of-old.ensures)
