use Rattle.std.proofs.Common.{◌∙◌}
use Rattle.ub_base.specs.declared.names.Event.{Event}
use Rattle.ub_base.specs.declared.names.ObjName.{ObjName}
use Rattle.footprint.specs.Found.{SettledIn}
use Rattle.footprint.proofs.Loops.{start, turn, finish}
use Rattle.footprint.proofs.PairLemmas.{narrows_least}
use Rattle.footprint.proofs.settled.narrow_pair.Goals as goal

pub loop-narrow-init : goal.loop-narrow-init
loop-narrow-init c = start c.args.frames.now (λ (m : Event × ObjName). SettledIn c.args.b.now m.0 m.1) c.args.a.now.narrows.keys _
    (c.into_iter-narrow-iterator.ensures.into_iter_gives ∙ c.iter-narrow-items.ensures.rest)

pub loop-narrow-preserved : goal.loop-narrow-preserved
loop-narrow-preserved c = turn c.args.frames.now (λ (m : Event × ObjName). SettledIn c.args.b.now m.0 m.1) c.args.a.now.narrows.keys
    c.loop-narrow.narrow-iterator c.next.new.self c.in-Some.narrow.now c.loop-narrow.best c.settled_otherwise-pair.result c.lesser-best.result
    c.in-Some.ensures.steps c.settled_otherwise-pair.ensures c.lesser-best.ensures c.loop-narrow.invariant

pub returns : goal.returns
returns c = narrows_least c.args.a.now c.args.b.now c.args.frames.now c.loop-narrow.best
    (finish c.args.frames.now (λ (m : Event × ObjName). SettledIn c.args.b.now m.0 m.1) c.args.a.now.narrows.keys c.loop-narrow.narrow-iterator
    c.loop-narrow.best c.in-None.ensures.steps.0 c.loop-narrow.invariant)
