use Rattle.run_acts.proofs.storage.store_pointer.Goals as goal

pub returns-clause-kept : goal.returns-clause-kept
returns-clause-kept c = λ numbered sound made. c.store_ptr.ensures.kept numbered sound.named made
