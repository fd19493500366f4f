use Rattle.std.proofs.Common.{ℕ, List, subst}
use Rattle.std.specs.List.{All, Contains}
use Rattle.lawful_bodies.proofs.function.nothing_open.Goals as goal

pub returns-clause-defined : goal.returns-clause-defined
returns-clause-defined c =
    subst (λ (z : List ℕ). All (Contains z) c.args.found.now.jumps) c.as_slice-labels.ensures
    (subst (All (Contains c.as_slice-labels.result.now)) c.as_slice.ensures (c.in_ok-are_in.ensures c.in_ok-must-4.ensures))
