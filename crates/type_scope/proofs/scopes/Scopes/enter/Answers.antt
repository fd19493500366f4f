use Rattle.std.proofs.Common.{◌≤◌, arith}
use Rattle.type_scope.proofs.Nested.{wider}
use Rattle.type_scope.proofs.scopes.Scopes.enter.Goals as goal

pub invariant_of-self : goal.invariant_of-self
invariant_of-self c =
    let sum = c.in-Some.ensures in
    let more : c.self.inside.depth ≤ c.in-Some.depth = omega (arith, sum) in (
      wider 0 c.self.inside.depth c.in-Some.depth c.self.inside.ordinary more c.self.invariant.0,
      wider 0 c.self.inside.depth c.in-Some.depth c.self.inside.tags more c.self.invariant.1,
    )
