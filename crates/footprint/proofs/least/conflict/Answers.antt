use Rattle.footprint.proofs.PairLemmas.{all_least, least_may}
use Rattle.footprint.proofs.least.conflict.Goals as goal

pub returns-clause-may : goal.returns-clause-may
returns-clause-may c = least_may c.args.a.now c.args.b.now c.args.map.now c.args.frames.now c.least_of_three.result
    (all_least c.args.a.now c.args.b.now c.args.map.now c.args.frames.now c.access_pair.result c.state_pair.result c.lookup_pair.result c.narrow_pair.result
    c.stream_pair.result c.lesser.result c.lesser-2.result c.least_of_three.result c.access_pair.ensures.least c.state_pair.ensures c.lookup_pair.ensures
    c.narrow_pair.ensures c.stream_pair.ensures c.lesser.ensures c.lesser-2.ensures c.least_of_three.ensures)

pub returns-clause-least : goal.returns-clause-least
returns-clause-least c =
    all_least c.args.a.now c.args.b.now c.args.map.now c.args.frames.now c.access_pair.result c.state_pair.result c.lookup_pair.result c.narrow_pair.result
    c.stream_pair.result c.lesser.result c.lesser-2.result c.least_of_three.result c.access_pair.ensures.least c.state_pair.ensures c.lookup_pair.ensures
    c.narrow_pair.ensures c.stream_pair.ensures c.lesser.ensures c.lesser-2.ensures c.least_of_three.ensures
