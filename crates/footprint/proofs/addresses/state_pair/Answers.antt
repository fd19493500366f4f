use Rattle.std.proofs.Common.{◌∙◌}
use Rattle.ub_base.specs.declared.names.ObjName.{ObjName}
use Rattle.footprint.specs.declared.state.State.{State}
use Rattle.footprint.specs.Found.{AtObject}
use Rattle.footprint.proofs.Loops.{start, turn, finish}
use Rattle.footprint.proofs.PairLemmas.{states_least}
use Rattle.footprint.proofs.addresses.state_pair.Goals as goal

pub loop-object-init : goal.loop-object-init
loop-object-init c = start c.args.frames.now (λ (e : ObjName × State). AtObject c.args.b.now c.args.map.now e.0 e.1) c.args.a.now.states.entries _
    (c.into_iter-object-iterator.ensures.into_iter_gives ∙ c.iter-object-items.ensures.rest)

pub loop-object-preserved : goal.loop-object-preserved
loop-object-preserved c = turn c.args.frames.now (λ (e : ObjName × State). AtObject c.args.b.now c.args.map.now e.0 e.1) c.args.a.now.states.entries
    c.loop-object.object-iterator c.next.new.self (c.in-Some.object.now, c.in-Some.state.now) c.loop-object.best c.object_pair-pair.result c.lesser-best.result
    c.in-Some.ensures.steps c.object_pair-pair.ensures c.lesser-best.ensures c.loop-object.invariant

pub returns : goal.returns
returns c = states_least c.args.a.now c.args.b.now c.args.map.now c.iter-object-items.ensures.ordered c.args.frames.now c.loop-object.best
    (finish c.args.frames.now (λ (e : ObjName × State). AtObject c.args.b.now c.args.map.now e.0 e.1) c.args.a.now.states.entries c.loop-object.object-iterator
    c.loop-object.best c.in-None.ensures.steps.0 c.loop-object.invariant)
