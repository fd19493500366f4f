use Rattle.std.proofs.Common.{◌∙◌, ap}
use Rattle.footprint.specs.Candidates.{whole_pair}
use Rattle.footprint.proofs.ConflictLemmas.{object_least}
use Rattle.footprint.proofs.addresses.object_pair.Goals as goal

pub returns : goal.returns
returns c = object_least c.args.b.now c.args.map.now c.args.object c.args.state c.args.frames.now c.whole_pair-whole.result c.address_pair-address.result
    c.lesser.result (c.whole_pair-whole.ensures ∙ ap (whole_pair c.args.frames.now c.args.object c.args.state) c.state.ensures) c.address_pair-address.ensures
    c.lesser.ensures
