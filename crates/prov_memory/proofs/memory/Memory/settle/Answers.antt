use Rattle.prov_memory.specs.contracts.memory.Memory.{the_view}
use Rattle.prov_memory.proofs.KeepLemmas.{keeps_narrowed}
use Rattle.prov_memory.proofs.memory.Memory.settle.Goals as goal

pub returns-in-Some-clause-kept : goal.returns-in-Some-clause-kept
returns-in-Some-clause-kept c =
    rw (← c.self.view_is) (keeps_narrowed c.narrow.result (the_view c.self.inside) c.narrow.new.self _ _ c.narrow.ensures.answer c.narrow.ensures.settled
    c.narrow.ensures.unchanged)
