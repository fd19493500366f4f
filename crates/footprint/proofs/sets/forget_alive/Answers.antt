use Rattle.std.proofs.Common.{refl, subst, IsSome, Option}
use Rattle.footprint.specs.declared.state.State.{State}
use Rattle.footprint.proofs.SetLemmas.{no_longer_alive}
use Rattle.footprint.proofs.sets.forget_alive.Goals as goal

pub returns-in-Some : goal.returns-in-Some
returns-in-Some c =
    no_longer_alive c.args.states.now (c.get_mut.follows.lender c.without_alive.result) c.args.object c.in-Some.kept.now c.without_alive.result
    ((c.get_mut.follows.holds c.without_alive.result).3 (subst (λ (o : Option State). IsSome o) c.in-Some.ensures.value refl)).0
    c.without_alive.ensures c.in-Some.ensures.value
