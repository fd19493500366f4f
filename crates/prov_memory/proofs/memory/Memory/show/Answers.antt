use Rattle.std.proofs.Common.{sym, subst, List}
use Rattle.mem_objects.specs.Held.{Held}
use Rattle.mem_objects.specs.Memory.{HaveRows}
use Rattle.mem_objects.proofs.StoreLemmas.{rows_uncovered}
use Rattle.prov_memory.proofs.memory.Memory.show.Goals as goal

pub invariant_of-self : goal.invariant_of-self
invariant_of-self c =
    subst (λ (hs : List Held). HaveRows c.self.inside.map hs) (sym c.expose.ensures)
    (rows_uncovered c.self.inside.map c.args.name c.self.inside.objects c.self.invariant)
