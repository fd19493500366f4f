use Rattle.std.proofs.Common.{◌≡◌, List, [], refl, ap}
use Rattle.ub_base.specs.declared.clause.Clause.{Clause}
use Rattle.ub_base.specs.declared.clause.Clause.TheVariants.{DivideByZero}
use Rattle.c_typed.specs.declared.tree.Place.{Place}
use Rattle.mem_spec.specs.Streams.{silent}
use Rattle.c_model.specs.Runs.{Entry, Outcome, Raises, Ends, trace_of}
use Rattle.c_model.specs.Findings.{Both, newest, older, Meets, raised, raced}
use Rattle.model_samples.specs.Definitions.{plain}
use Rattle.model_samples.proofs.law_meets.Goals as goal

no_both : (trace : List Entry) (d e : Entry) (u v : Place) → trace ≡ [] → Both trace d u e v → ⊥
no_both _ d e u v p (newest _ _ es _ _ q h s t) = absurd (cc (p))
no_both _ d e u v p (older c _ _ es _ _ b) = absurd (cc (p))

nothing : (o : Outcome) (c : Clause) → o ≡ Ends 0 silent [] → Meets plain o c → ⊥
nothing _ c p (raised _ trace) = absurd (cc (p))
nothing o _ p (raced _ d e u v r) = no_both (trace_of o) d e u v (ap trace_of p) r.both

only : (o : Outcome) (c : Clause) → o ≡ Raises DivideByZero [] → Meets plain o c → c ≡ DivideByZero
only _ c p (raised _ trace) = cc (p)
only o _ p (raced _ d e u v r) = absurd (no_both (trace_of o) d e u v (ap trace_of p) r.both)

pub returns-clause-nothing : goal.returns-clause-nothing
returns-clause-nothing c = λ clause m. nothing _ clause refl m

pub returns-clause-raised : goal.returns-clause-raised
returns-clause-raised c = λ clause m. only _ clause refl m
