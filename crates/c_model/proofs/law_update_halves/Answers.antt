use Rattle.c_model.proofs.Updates.{before_kept, halves, halves_back}
use Rattle.ub_base.specs.declared.clause.Kind.TheVariants.{Eff}
use Rattle.c_typed.specs.Order.{place}
use Rattle.c_model.proofs.Halves.{closed_at, effect_next}
use Rattle.c_model.proofs.law_update_halves.Goals as goal

pub returns-clause-closed : goal.returns-clause-closed
returns-clause-closed c = λ world f e u w n closed v h. closed_at world f e u w n v (closed v) h

pub returns-clause-choices : goal.returns-clause-choices
returns-clause-choices c = λ taken taken' kept tree u v h. before_kept taken taken' kept tree 0 u v h

pub returns-clause-effect : goal.returns-clause-effect
returns-clause-effect c = λ world f e m w up n closed. effect_next world f e m w up n (closed (place m Eff))

pub returns-clause-halves : goal.returns-clause-halves
returns-clause-halves c = λ taken tree m up. (halves taken m tree 0 up, λ v b. halves_back taken m tree 0 v up b)
