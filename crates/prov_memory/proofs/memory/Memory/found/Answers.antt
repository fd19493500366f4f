use Rattle.mem_objects.specs.Memory.{store_of}
use Rattle.prov_memory.proofs.FindLemmas.{found_some, found_none}
use Rattle.prov_memory.proofs.memory.Memory.found.Goals as goal

pub returns-then-can_find : goal.returns-then-can_find
returns-then-can_find c = λ io. found_some (store_of c.args.self.now io) c.args.name c.in-Some.name c.can_find.result c.in-Some.is
    (c.can_find.ensures io) c.if-can_find.true

pub returns-else-can_find : goal.returns-else-can_find
returns-else-can_find c = λ io. found_none (store_of c.args.self.now io) c.args.name c.in-Some.name c.can_find.result c.in-Some.is
    (c.can_find.ensures io) c.if-can_find.false
