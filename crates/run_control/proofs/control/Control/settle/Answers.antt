use Rattle.std.proofs.Common.{◌≡◌, ◌∙◌, ap, sym, refl, Bool, true, false, ℤ}
use Rattle.std.proofs.lemmas.Result.{on_ok_weaker}
use Rattle.c_model.specs.Control.{Todo, leaves}
use Rattle.run_control.specs.declared.work.Use.{Use}
use Rattle.run_control.specs.declared.work.Use.TheVariants.{Result}
use Rattle.run_control.specs.View.{Meaning, after, todo_of}
use Rattle.run_control.proofs.control.Control.settle.Goals as goal

result_is : (m : Meaning) (truth : Bool) (z : ℤ) (rest : Todo) → after m truth z Result rest ≡ leaves rest
result_is m true z rest = refl
result_is m false z rest = refl

returned : (m : Meaning) (truth : Bool) (z : ℤ) (what : Use) (rest : Todo) → what ≡ Result → after m truth z what rest ≡ leaves rest
returned m truth z what rest e = ap (λ w. after m truth z w rest) e ∙ result_is m truth z rest

pub returns-in-Result-clause-now : goal.returns-in-Result-clause-now
returns-in-Result-clause-now c = on_ok_weaker c.go.result
    (λ f m z. f m ∙ sym (returned m c.args.truth z c.args.what (todo_of m c.args.self.now.now) c.in-Result.is)) c.go.ensures.now
