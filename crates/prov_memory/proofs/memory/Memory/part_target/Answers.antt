use Rattle.prov_memory.proofs.PartLemmas.{found_all}
use Rattle.prov_memory.proofs.KeepLemmas.{keeps_none}
use Rattle.prov_memory.proofs.memory.Memory.part_target.Goals as goal

pub returns-in-None-clause-exact : goal.returns-in-None-clause-exact
returns-in-None-clause-exact c =
    rw c.in-None.is
    (found_all c.look_up.result c.args.self.now.rows c.args.who c.args.number c.args.self.now c.look_up.ensures.exact)

pub returns-in-Some-clause-kept : goal.returns-in-Some-clause-kept
returns-in-Some-clause-kept c = keeps_none c.args.self.now
