use Rattle.run_machine.proofs.picks.is_permitted_after.Goals as goal

pub returns : goal.returns
returns c = (c.in_ok-begun.begun.now, c.in_ok-begun.ensures, c.is_permitted.ensures)
