use Rattle.prov_memory.proofs.memory.Memory.store.Goals as goal

pub returns-clause-exact : goal.returns-clause-exact
returns-clause-exact c = rw (← c.cells.ensures) c.store_cells.ensures.exact

pub returns-clause-raises : goal.returns-clause-raises
returns-clause-raises c = rw (← c.cells.ensures) c.store_cells.ensures.raises

pub returns-clause-kept : goal.returns-clause-kept
returns-clause-kept c = rw (← c.cells.ensures) c.store_cells.ensures.kept
