use Rattle.std.proofs.Common.{◌≡◌, ◌∙◌, sym, ap, ap₂, ℤ, to_z, of_z, rules}
use Rattle.std.specs.Prelude.{Result, Ok, Err}
use Rattle.std.specs.Int.{w128}
use Rattle.std.proofs.lemmas.Int.{to_z-of_z}
use Rattle.std.proofs.lemmas.Result.{err_from_is_err_and}
use Rattle.ub_base.specs.declared.clause.Clause.{Clause}
use Rattle.c_arith.specs.Operators.{conv}
use Rattle.mem_spec.specs.Script.{Done}
use Rattle.mem_objects.specs.Memory.{store_of}
use Rattle.c_model.specs.Nodes.{given_back, operated, or_zero}
use Rattle.c_model.specs.Values.{Int}
use Rattle.run_values.specs.Views.{pointer_at}
use Rattle.run_acts.proofs.Updates.{integer_given, integer_raised, integer_unread}
use Rattle.run_values.proofs.Keeping.{int_of}
use Rattle.run_acts.proofs.pointers.changed_integer.Goals as goal

pub returns-clause-exact : goal.returns-clause-exact
returns-clause-exact c = λ has who ty old io.
    let m = c.args.m.now in
    let new = c.load_int.new.self in
    let z = c.in_ok-old.old in
    let w = c.in_ok-new.new in
    let read : to_z w128 (of_z w128 z) ≡ z = to_z-of_z w128 z (search rules) in
    let wide : to_z w128 (of_z w128 c.convert-before.result) ≡ c.convert-before.result = to_z-of_z w128 c.convert-before.result (search rules) in
    let number : to_z w128 (of_z w128 c.args.operand) ≡ c.args.operand = to_z-of_z w128 c.args.operand (search rules) in
    let worked : to_z w128 (of_z w128 w) ≡ w = to_z-of_z w128 w (search rules) in
    let kept : to_z w128 (of_z w128 c.convert-after.result) ≡ c.convert-after.result = to_z-of_z w128 c.convert-after.result (search rules) in
    let is : Ok w ≡ operated c.args.op c.args.work (conv c.args.work z) c.args.operand =
    c.in_ok-new.ensures ∙ ap₂ (operated c.args.op c.args.work) (wide ∙ c.convert-before.ensures ∙ ap (conv c.args.work) read) number in
    integer_given m.rows who ty (pointer_at c.args.place) c.args.op c.args.kind c.args.work old c.args.operand (store_of m io) (store_of new io) z w
    c.load_int.new.t (c.in_ok-old.ensures.exact has io) is
    ∙ ap₂ (λ (a b : ℤ). Done (given_back old (Int a) (Int b)) c.load_int.new.t (store_of new io)) (sym read)
    (sym (kept ∙ c.convert-after.ensures ∙ ap (conv c.args.kind) worked))

pub returns-clause-after : goal.returns-clause-after
returns-clause-after c =
    let z = c.in_ok-old.old in
    let w = c.in_ok-new.new in
    let wide : to_z w128 (of_z w128 c.convert-before.result) ≡ c.convert-before.result = to_z-of_z w128 c.convert-before.result (search rules) in
    let number : to_z w128 (of_z w128 c.args.operand) ≡ c.args.operand = to_z-of_z w128 c.args.operand (search rules) in
    let worked : to_z w128 (of_z w128 w) ≡ w = to_z-of_z w128 w (search rules) in
    let kept : to_z w128 (of_z w128 c.convert-after.result) ≡ c.convert-after.result = to_z-of_z w128 c.convert-after.result (search rules) in
    let is : Ok w ≡ operated c.args.op c.args.work (conv c.args.work (to_z w128 (of_z w128 z))) c.args.operand =
    c.in_ok-new.ensures ∙ ap₂ (operated c.args.op c.args.work) (wide ∙ c.convert-before.ensures) number in
    ap Int (kept ∙ c.convert-after.ensures ∙ ap (conv c.args.kind) worked ∙ ap (λ (r : Result ℤ Clause). conv c.args.kind (or_zero r)) is)

pub returns-in_err-old-clause-raises : goal.returns-in_err-old-clause-raises
returns-in_err-old-clause-raises c =
    let e = err_from_is_err_and c.from_residual.result c.from_residual.ensures.1 in
    let m = c.args.m.now in
    rw (e.1, e.2) (λ has who ty old io.
    integer_unread m.rows who ty (pointer_at c.args.place) c.args.op c.args.kind c.args.work old c.args.operand (store_of m io) (store_of m io)
    c.in_err-old.field-0.0 (c.in_err-old.ensures.raises io))

pub returns-in_err-new-clause-raises : goal.returns-in_err-new-clause-raises
returns-in_err-new-clause-raises c =
    let e = err_from_is_err_and c.from_residual-in_err-new.result c.from_residual-in_err-new.ensures.1 in
    let m = c.args.m.now in
    let new = c.load_int.new.self in
    let z = c.in_ok-old.old in
    let read : to_z w128 (of_z w128 z) ≡ z = to_z-of_z w128 z (search rules) in
    let wide : to_z w128 (of_z w128 c.convert-before.result) ≡ c.convert-before.result = to_z-of_z w128 c.convert-before.result (search rules) in
    let number : to_z w128 (of_z w128 c.args.operand) ≡ c.args.operand = to_z-of_z w128 c.args.operand (search rules) in
    let is : Err c.in_err-new.field-0.0 ≡ operated c.args.op c.args.work (conv c.args.work z) c.args.operand =
    c.in_err-new.ensures ∙ ap₂ (operated c.args.op c.args.work) (wide ∙ c.convert-before.ensures ∙ ap (conv c.args.work) read) number in
    rw (e.1, e.2) (λ has who ty old io.
    integer_raised m.rows who ty (pointer_at c.args.place) c.args.op c.args.kind c.args.work old c.args.operand (store_of m io) (store_of new io) z
    c.load_int.new.t c.in_err-new.field-0.0 (c.in_ok-old.ensures.exact has io) is)

pub returns-clause-made : goal.returns-clause-made
returns-clause-made c = (int_of c.load_int.new.self _, int_of c.load_int.new.self _)
