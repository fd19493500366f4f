use Rattle.std.proofs.Common.{◌≡◌, ◌<◌, ◌≤◌, ◌++◌, ◌∷◌, [], length, subst, arith}
use Rattle.parse_cursor.specs.Declarations.{AreKnown}
use Rattle.parse_cursor.proofs.Known.{set_less, same_less}
use Rattle.parse_cursor.proofs.scope.Scope.leave.Goals as goal

pub invariant_of-self : goal.invariant_of-self
invariant_of-self c =
    let within : c.in-Some.last.name < length c.self.inside.typedefs.items = omega arith in
    let split : c.self.inside.names.items ≡ c.pop.new.self.items ++ c.in-Some.last ∷ [] = c.in-Some.ensures.items in
    set_less c.self.inside.typedefs.items c.pop.new.self.items c.in-Some.last (subst (AreKnown c.self.inside.typedefs.items) split c.self.invariant) within

pub invariant_of-self-else-last-len : goal.invariant_of-self-else-last-len
invariant_of-self-else-last-len c =
    let beyond : length c.self.inside.typedefs.items ≤ c.in-Some.last.name = omega arith in
    let split : c.self.inside.names.items ≡ c.pop.new.self.items ++ c.in-Some.last ∷ [] = c.in-Some.ensures.items in
    same_less c.self.inside.typedefs.items c.pop.new.self.items c.in-Some.last (subst (AreKnown c.self.inside.typedefs.items) split c.self.invariant) beyond
