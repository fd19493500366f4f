use Rattle.std.proofs.Common.{ap, ◌∙◌, not}
use Rattle.run_standing.proofs.Stands.{parameters_there}
use Rattle.run_standing.proofs.initial.are_there.Goals as goal

pub returns : goal.returns
returns c = ap not c.is_empty.ensures ∙ parameters_there c.args.params.now
