use Rattle.prov_memory.proofs.memory.Memory.write.Goals as goal

pub invariant_of-self : goal.invariant_of-self
invariant_of-self c = c.write.ensures.rows c.self.inside.map c.self.invariant
