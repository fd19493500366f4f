use Rattle.std.proofs.Common.{◌∙◌}
use Rattle.footprint.proofs.Loops.{start, turn, finish}
use Rattle.footprint.proofs.PairLemmas.{OneLookup, one_lookup, lookups_least}
use Rattle.footprint.proofs.addresses.lookup_pair.Goals as goal

pub loop-addr-init : goal.loop-addr-init
loop-addr-init c = start c.args.frames.now (OneLookup c.args.a.now c.args.b.now c.args.map.now) c.args.a.now.lookups.keys _
    (c.into_iter-addr-iterator.ensures.into_iter_gives ∙ c.iter-addr-items.ensures.rest)

pub loop-addr-preserved : goal.loop-addr-preserved
loop-addr-preserved c = turn c.args.frames.now (OneLookup c.args.a.now c.args.b.now c.args.map.now) c.args.a.now.lookups.keys c.loop-addr.addr-iterator
    c.next.new.self c.in-Some.addr.now c.loop-addr.best c.lesser-pair.result c.lesser-best.result c.in-Some.ensures.steps
    (one_lookup c.args.a.now c.args.b.now c.args.map.now c.args.frames.now c.in-Some.addr.now c.covering-inside.result.0 c.covering-inside.result.1
    c.beside-within.result c.beside-behind.result c.lesser-pair.result c.covering-inside.ensures.inside c.covering-inside.ensures.past
    c.beside-within.ensures c.beside-behind.ensures c.lesser-pair.ensures)
    c.lesser-best.ensures c.loop-addr.invariant

pub returns : goal.returns
returns c = lookups_least c.args.a.now c.args.b.now c.args.map.now c.args.frames.now c.loop-addr.best
    (finish c.args.frames.now (OneLookup c.args.a.now c.args.b.now c.args.map.now) c.args.a.now.lookups.keys c.loop-addr.addr-iterator c.loop-addr.best
    c.in-None.ensures.steps.0 c.loop-addr.invariant)
