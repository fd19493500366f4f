use Rattle.std.proofs.Common.{sym, subst, List}
use Rattle.exposure.specs.declared.prov.Prov.{Prov}
use Rattle.mem_objects.specs.Made.{AreNumbered}
use Rattle.mem_objects.proofs.ProvLemmas.{numbered_object}
use Rattle.mem_objects.proofs.origins.Origins.add_object.Goals as goal

pub invariant_of-self-2 : goal.invariant_of-self-2
invariant_of-self-2 c =
    subst (λ (ps : List Prov). AreNumbered c.self.inside.numbers ps) (sym c.in_ok-push.ensures.items)
    (numbered_object c.self.inside.numbers c.self.inside.list.items c.args.name c.self.invariant)
