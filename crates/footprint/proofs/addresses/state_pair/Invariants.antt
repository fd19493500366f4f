use Rattle.ub_base.specs.declared.names.ObjName.{ObjName}
use Rattle.footprint.specs.declared.state.State.{State}
use Rattle.footprint.specs.Found.{AtObject}
use Rattle.footprint.proofs.Loops.{Goes}
use Rattle.footprint.proofs.addresses.state_pair.Given as goal

abbrev pub invariant-loop-object : goal.invariant-loop-object
invariant-loop-object l = Goes l.frames (λ (e : ObjName × State). AtObject l.b l.map e.0 e.1) l.a.states.entries l.object-iterator l.best
