use Rattle.run_control.proofs.Finds.{finds_all}
use Rattle.run_control.proofs.targets.targets_of.Goals as goal

pub returns-clause-finds : goal.returns-clause-finds
returns-clause-finds c =
    finds_all c.args.links.now.items c.visit.new.links.items c.new-found.result.items c.visit.new.found.items c.args.body.now c.args.labels
    c.new-found.ensures.items c.in_ok-visit.ensures
