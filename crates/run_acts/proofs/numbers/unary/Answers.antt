use Rattle.std.proofs.Common.{◌≡◌, ◌∙◌, sym, ap, ℤ, Bool, not, [], to_z, of_z, rules}
use Rattle.std.specs.Int.{w128}
use Rattle.std.proofs.lemmas.Int.{to_z-of_z}
use Rattle.c_arith.specs.Operators.{conv, negated, complemented}
use Rattle.mem_spec.specs.Script.{run, Done}
use Rattle.c_model.specs.Nodes.{bool_value, int_outcome}
use Rattle.c_model.specs.Values.{Value, Int}
use Rattle.run_acts.proofs.numbers.unary.Goals as goal

pub returns-in-Minus : goal.returns-in-Minus
returns-in-Minus c = λ m rows s.
    let k = c.in-Minus.kind in
    let number : to_z w128 (of_z w128 c.as_integer-number.result) ≡ c.as_integer-number.result = to_z-of_z w128 c.as_integer-number.result (search rules) in
    rw c.in-Minus.is (ap (λ (z : ℤ). run rows (int_outcome (negated k (conv k z))) s) (sym (number ∙ c.as_integer-number.ensures m)) ∙ c.minus.ensures m rows
    s)

pub returns-in-Complement : goal.returns-in-Complement
returns-in-Complement c = λ m rows s.
    let k = c.in-Complement.kind in
    let number : to_z w128 (of_z w128 c.as_integer-number.result) ≡ c.as_integer-number.result = to_z-of_z w128 c.as_integer-number.result (search rules) in
    let converted : to_z w128 (of_z w128 c.convert.result) ≡ c.convert.result = to_z-of_z w128 c.convert.result (search rules) in
    let value : to_z w128 (of_z w128 c.complement.result) ≡ c.complement.result = to_z-of_z w128 c.complement.result (search rules) in
    rw c.in-Complement.is (ap (λ (z : ℤ). Done (Int z) [] s)
    (sym (value ∙ c.complement.ensures ∙ ap (complemented k) (converted ∙ c.convert.ensures ∙ ap (conv k) (number ∙ c.as_integer-number.ensures m)))))

pub returns-in-Not : goal.returns-in-Not
returns-in-Not c = λ m rows s.
    rw c.in-Not.is (ap (λ (v : Value). Done v [] s) (sym (c.flag.ensures m ∙ ap (λ (b : Bool). bool_value (not b)) (c.truth.ensures m))))
