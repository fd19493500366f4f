use Rattle.std.proofs.Common.{refl}
use Rattle.footprint.proofs.AnyLemmas.{otherwise}
use Rattle.footprint.proofs.settled.is_settled_otherwise.Goals as goal

pub returns : goal.returns
returns c = otherwise c.args.narrows.now c.args.id c.args.keep c.is_settled_below.result c.is_settled_above.result _ c.is_settled_below.ensures
    c.is_settled_above.ensures refl
