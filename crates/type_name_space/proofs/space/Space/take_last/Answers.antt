use Rattle.std.proofs.Common.{subst}
use Rattle.type_name_space.specs.Links.{IsLinked}
use Rattle.type_name_space.proofs.Links.{has_room, taken}
use Rattle.type_name_space.proofs.space.Space.take_last.Goals as goal

pub put_place-requires : goal.put_place-requires
put_place-requires g c =
    has_room c.self.inside.newest.items c.pop.new.self.items c.in_ok-binding.binding
    (subst (λ bs. IsLinked c.self.inside.newest.items bs) c.in_ok-binding.ensures.items c.self.invariant)

pub invariant_of-self-2 : goal.invariant_of-self-2
invariant_of-self-2 g c =
    taken c.self.inside.newest.items c.put_place.new.places.items c.pop.new.self.items c.in_ok-binding.binding
    (subst (λ bs. IsLinked c.self.inside.newest.items bs) c.in_ok-binding.ensures.items c.self.invariant) c.put_place.ensures
