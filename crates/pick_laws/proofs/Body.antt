-- What a body gives chooses no operand, so that what is kept of choices stays.
use Rattle.std.proofs.Common.{None, sym, ap, ◌∙◌}
use Rattle.std.specs.Prelude.{if◌then◌else◌}
use Rattle.ub_base.specs.declared.clause.Kind.TheVariants.{Val}
use Rattle.c_typed.specs.Order.{Taken, is_due, place}
use Rattle.c_model.specs.Program.{tree_of}
use Rattle.run_answers.proofs.Given.{given_value, taken_given}
use Rattle.pick_laws.proofs.Steps.{BodyKeeps}

pub body_keeps : BodyKeeps
body_keeps world f e n v kept k = record {
  chosen = λ j. k.chosen j
      ∙ ap (λ (t : Taken). if is_due (tree_of e.root) t (place j Val) then t j else None) (sym (taken_given world f e n v));
  given = λ j not_due. given_value e n j v
      ∙ k.given j (ap (λ (t : Taken). is_due (tree_of e.root) t (place j Val)) (sym (taken_given world f e n v)) ∙ not_due);
}
