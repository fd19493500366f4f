use Rattle.std.proofs.Common.{arith}
use Rattle.mem_objects.proofs.TagLemmas.{last_is}
use Rattle.prov_memory.proofs.memory.Memory.add_type.Goals as goal

pub returns-clause-id : goal.returns-clause-id
returns-clause-id c =
    (last_is c.self.inside.types.items c.push.new.self.items c.args.ty c.in_ok-id.id.number c.in_ok-push.ensures.items
    (omega (arith, c.in_ok-id.ensures, c.len.ensures, c.self.inside.types.ok.0))).0
