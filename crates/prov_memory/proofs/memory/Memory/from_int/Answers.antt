use Rattle.prov_memory.proofs.FindLemmas.{from_int_all}
use Rattle.mem_objects.proofs.SoundLemmas.{more_made}
use Rattle.prov_memory.proofs.memory.Memory.from_int.Goals as goal

pub returns-clause-exact : goal.returns-clause-exact
returns-clause-exact c =
    from_int_all c.look_up.result c.args.self.now c.look_up.new.self c.args.who c.args.addr c.clear.new.self c.look_up.new.t c.look_up.ensures.more
    c.clear.ensures c.look_up.ensures.items c.look_up.ensures.exact

pub returns-clause-made : goal.returns-clause-made
returns-clause-made c = more_made c.args.self.now c.look_up.new.self c.look_up.ensures.more
