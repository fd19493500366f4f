use Rattle.std.proofs.Common.{◌∙◌}
use Rattle.footprint.proofs.Loops.{start, turn, finish}
use Rattle.footprint.proofs.PairLemmas.{OtherKeep, other_least, settled_least}
use Rattle.footprint.proofs.settled.settled_otherwise.Goals as goal

pub loop-other-init : goal.loop-other-init
loop-other-init c = start c.args.frames.now (OtherKeep c.args.b.now c.args.id c.args.keep) c.args.b.now.narrows.keys _
    (c.into_iter-other-iterator.ensures.into_iter_gives ∙ c.iter-other-items.ensures.rest)

pub loop-other-preserved : goal.loop-other-preserved
loop-other-preserved c = turn c.args.frames.now (OtherKeep c.args.b.now c.args.id c.args.keep) c.args.b.now.narrows.keys c.loop-other.other-iterator
    c.next.new.self c.in-Some.other.now c.loop-other.best c.when-pair.result c.lesser-best.result c.in-Some.ensures.steps
    (other_least c.args.b.now c.args.id c.args.keep c.args.frames.now c.in-Some.other.now c.settles_otherwise.result c.when-pair.result
    c.settles_otherwise.ensures c.when-pair.ensures)
    c.lesser-best.ensures c.loop-other.invariant

pub returns : goal.returns
returns c = settled_least c.args.b.now c.args.id c.args.keep c.args.frames.now c.loop-other.best
    (finish c.args.frames.now (OtherKeep c.args.b.now c.args.id c.args.keep) c.args.b.now.narrows.keys c.loop-other.other-iterator c.loop-other.best
    c.in-None.ensures.steps.0 c.loop-other.invariant)
