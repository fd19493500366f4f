use Rattle.std.proofs.Common.{sym, subst}
use Rattle.mem_objects.specs.Memory.{Kept}
use Rattle.mem_objects.specs.Sound.{AllMade}
use Rattle.prov_memory.proofs.memory.Memory.make_ambiguity.Goals as goal

pub returns-in_err-make-clause-each : goal.returns-in_err-make-clause-each
returns-in_err-make-clause-each c = λ m made each. subst (λ (k : Kept). AllMade m k.origins) (sym c.self.view_is) each

pub returns-clause-each : goal.returns-clause-each
returns-clause-each c = λ m made each.
    c.add_ambiguity.ensures.each m made (subst (λ (k : Kept). AllMade m k.origins) (sym c.self.view_is) each)
