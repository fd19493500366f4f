use Rattle.std.proofs.Common.{◌≡◌, ◌∙◌, sym, ap, ℤ, [], to_z, of_z, rules}
use Rattle.std.specs.Prelude.{Result, Ok, Err}
use Rattle.std.specs.Int.{w128}
use Rattle.std.proofs.lemmas.Int.{to_z-of_z}
use Rattle.std.proofs.lemmas.Result.{err_from_is_err_and}
use Rattle.ub_base.specs.declared.clause.Clause.{Clause}
use Rattle.c_arith.specs.Operators.{conv, negated}
use Rattle.mem_spec.specs.Script.{run, Done}
use Rattle.c_model.specs.Nodes.{int_outcome}
use Rattle.c_model.specs.Values.{Int}
use Rattle.run_acts.proofs.numbers.minus.Goals as goal

pub returns : goal.returns
returns c = λ m rows s.
    let k = c.args.kind in
    let number : to_z w128 (of_z w128 c.args.number) ≡ c.args.number = to_z-of_z w128 c.args.number (search rules) in
    let converted : to_z w128 (of_z w128 c.convert.result) ≡ c.convert.result = to_z-of_z w128 c.convert.result (search rules) in
    let value : to_z w128 (of_z w128 c.in_ok-value.value) ≡ c.in_ok-value.value = to_z-of_z w128 c.in_ok-value.value (search rules) in
    let is : Ok c.in_ok-value.value ≡ negated k (conv k c.args.number) =
    c.in_ok-value.ensures ∙ ap (negated k) (converted ∙ c.convert.ensures ∙ ap (conv k) number) in
    ap (λ (r : Result ℤ Clause). run rows (int_outcome r) s) (sym is) ∙ ap (λ (z : ℤ). Done (Int z) [] s) (sym value)

pub returns-in_err-value : goal.returns-in_err-value
returns-in_err-value c =
    let e = err_from_is_err_and c.from_residual.result c.from_residual.ensures.1 in
    let k = c.args.kind in
    let number : to_z w128 (of_z w128 c.args.number) ≡ c.args.number = to_z-of_z w128 c.args.number (search rules) in
    let converted : to_z w128 (of_z w128 c.convert.result) ≡ c.convert.result = to_z-of_z w128 c.convert.result (search rules) in
    let is : Err c.in_err-value.field-0.0 ≡ negated k (conv k c.args.number) =
    c.in_err-value.ensures ∙ ap (negated k) (converted ∙ c.convert.ensures ∙ ap (conv k) number) in
    rw (e.1, e.2) (λ m rows s. ap (λ (r : Result ℤ Clause). run rows (int_outcome r) s) (sym is))
