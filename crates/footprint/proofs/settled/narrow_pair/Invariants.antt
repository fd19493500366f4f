use Rattle.ub_base.specs.declared.names.Event.{Event}
use Rattle.ub_base.specs.declared.names.ObjName.{ObjName}
use Rattle.footprint.specs.Found.{SettledIn}
use Rattle.footprint.proofs.Loops.{Goes}
use Rattle.footprint.proofs.settled.narrow_pair.Given as goal

abbrev pub invariant-loop-narrow : goal.invariant-loop-narrow
invariant-loop-narrow l = Goes l.frames (λ (m : Event × ObjName). SettledIn l.b m.0 m.1) l.a.narrows.keys l.narrow-iterator l.best
