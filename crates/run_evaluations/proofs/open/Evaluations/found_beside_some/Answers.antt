use Rattle.std.proofs.Common.{sym, subst, Option, ℕ}
use Rattle.std.specs.Prelude.{IfOk}
use Rattle.run_evaluations.specs.Ends.{IsBesideSome}
use Rattle.run_evaluations.proofs.open.Evaluations.found_beside_some.Goals as goal

pub returns-in-Some-clause-first : goal.returns-in-Some-clause-first
returns-in-Some-clause-first c = λ last at.
    subst (λ (o : Option ℕ). IfOk c.found_beside.result (IsBesideSome c.args.under.frames.now c.args.under.map.now c.args.self.now last o)) (sym c.in-Some.is)
    (c.found_beside.ensures.first last at)
