use Rattle.std.proofs.Common.{◌∙◌}
use Rattle.footprint.proofs.Loops.{start, turn, finish}
use Rattle.footprint.proofs.ConflictLemmas.{OneAddress, one_least, address_least}
use Rattle.footprint.proofs.addresses.address_pair.Goals as goal

pub loop-addr-init : goal.loop-addr-init
loop-addr-init c = start c.args.frames.now (OneAddress c.args.b.now c.args.map.now c.args.object c.args.state) c.args.b.now.lookups.keys _
    (c.into_iter-addr-iterator.ensures.into_iter_gives ∙ c.iter-addr-items.ensures.rest)

pub loop-addr-preserved : goal.loop-addr-preserved
loop-addr-preserved c = turn c.args.frames.now (OneAddress c.args.b.now c.args.map.now c.args.object c.args.state) c.args.b.now.lookups.keys
    c.loop-addr.addr-iterator c.next.new.self c.in-Some.addr.now c.loop-addr.best c.lesser-pair.result c.lesser-best.result c.in-Some.ensures.steps
    (one_least c.args.b.now c.args.map.now c.args.object c.args.state c.args.frames.now c.in-Some.addr.now c.is_at-at.result c.when-dies.result
    c.when-expose.result c.lesser-pair.result c.is_at-at.ensures c.when-dies.ensures c.when-expose.ensures c.lesser-pair.ensures)
    c.lesser-best.ensures c.loop-addr.invariant

pub returns : goal.returns
returns c = address_least c.args.b.now c.args.map.now c.args.object c.args.state c.args.frames.now c.loop-addr.best
    (finish c.args.frames.now (OneAddress c.args.b.now c.args.map.now c.args.object c.args.state) c.args.b.now.lookups.keys c.loop-addr.addr-iterator
    c.loop-addr.best c.in-None.ensures.steps.0 c.loop-addr.invariant)
