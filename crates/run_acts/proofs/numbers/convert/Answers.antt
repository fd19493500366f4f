use Rattle.std.proofs.Common.{◌≡◌, ◌∙◌, sym, ap, ℕ, ℤ, [], to_z, of_z, rules}
use Rattle.std.specs.Int.{w128}
use Rattle.std.proofs.lemmas.Int.{to_z-of_z}
use Rattle.std.proofs.lemmas.Result.{err_from_is_err_and}
use Rattle.c_arith.specs.Operators.{bits, conv}
use Rattle.c_types.specs.declared.kind.IntKind.TheVariants.{ULong}
use Rattle.mem_spec.specs.Script.{Done}
use Rattle.mem_objects.specs.Memory.{store_of}
use Rattle.c_model.specs.Nodes.{bool_value}
use Rattle.c_model.specs.Values.{Value, Int, Fun, integer_of}
use Rattle.run_values.specs.Views.{value_in}
use Rattle.run_values.proofs.Keeping.{int_of, function_of, seen_number}
use Rattle.run_values.specs.Views.{pointer_at}
use Rattle.run_acts.proofs.Stores.{made_pointer}
use Rattle.prov_memory.proofs.KeepLemmas.{keeps_none}
use Rattle.run_acts.proofs.numbers.convert.Goals as goal

pub returns-in-Integer-clause-exact : goal.returns-in-Integer-clause-exact
returns-in-Integer-clause-exact c =
    let m = c.args.m.now in
    let number : to_z w128 (of_z w128 c.as_integer.result) ≡ integer_of (value_in m c.args.operand.now) =
    to_z-of_z w128 c.as_integer.result (search rules) ∙ c.as_integer.ensures m in
    let out : to_z w128 (of_z w128 c.convert.result) ≡ c.convert.result = to_z-of_z w128 c.convert.result (search rules) in
    rw (c.in-Integer.is, c.clear.ensures)
    (λ known io. ap (λ (z : ℤ). Done (Int z) [] (store_of m io)) (sym (out ∙ c.convert.ensures ∙ ap (conv c.in-Integer.kind) number)))

pub returns-in-Address-clause-exact : goal.returns-in-Address-clause-exact
returns-in-Address-clause-exact c =
    rw (c.in-Address.is, ← c.as_pointer.ensures c.args.m.now) (λ known io. c.exposed.ensures.exact io)

pub returns-in-NotNull-clause-exact : goal.returns-in-NotNull-clause-exact
returns-in-NotNull-clause-exact c =
    let m = c.args.m.now in
    rw (c.in-NotNull.is, c.clear.ensures)
    (λ known io. ap (λ (v : Value). Done v [] (store_of m io)) (sym (c.flag.ensures m ∙ ap bool_value (c.truth.ensures m))))

pub returns-in-Function-clause-exact : goal.returns-in-Function-clause-exact
returns-in-Function-clause-exact c =
    let m = c.args.m.now in
    rw (c.in-Function.is, c.clear.ensures) (λ known io. ap (λ (n : ℕ). Done (Fun n) [] (store_of m io)) (sym (c.as_function.ensures m)))

pub returns-in_ok-pointer-in-Lookup-clause-exact : goal.returns-in_ok-pointer-in-Lookup-clause-exact
returns-in_ok-pointer-in-Lookup-clause-exact c = λ known io.
    let m = c.args.m.now in
    let number : to_z w128 (of_z w128 c.as_integer-in-Lookup.result) ≡ integer_of (value_in m c.args.operand.now) =
    to_z-of_z w128 c.as_integer-in-Lookup.result (search rules) ∙ c.as_integer-in-Lookup.ensures m in
    let at : c.address.result ≡ bits ULong (integer_of (value_in m c.args.operand.now)) = c.address.ensures ∙ ap (bits ULong) number in
    rw (c.in-Lookup.is, ← at) (c.in_ok-pointer-in-Lookup.ensures.exact known io)

pub returns-in_err-pointer-in-Pointer-clause-raises : goal.returns-in_err-pointer-in-Pointer-clause-raises
returns-in_err-pointer-in-Pointer-clause-raises c =
    let e = err_from_is_err_and c.from_residual-in_err-pointer-in-Pointer.result c.from_residual-in_err-pointer-in-Pointer.ensures.1 in
    let m = c.args.m.now in
    rw (e.1, e.2, c.in-Pointer.is, ← c.as_pointer-in-Pointer.ensures m)
    (λ io. c.in_err-pointer-in-Pointer.ensures.exact m m.rows (store_of m io))

pub returns-in-Integer-clause-made : goal.returns-in-Integer-clause-made
returns-in-Integer-clause-made c = λ made. int_of c.args.m.now _

pub returns-in-NotNull-clause-made : goal.returns-in-NotNull-clause-made
returns-in-NotNull-clause-made c = λ made. seen_number c.args.m.now c.args.m.now c.flag.result _ (c.flag.ensures c.args.m.now)

pub returns-in-Function-clause-made : goal.returns-in-Function-clause-made
returns-in-Function-clause-made c = λ made. function_of c.args.m.now _

pub returns-in_ok-pointer-in-Pointer-clause-made : goal.returns-in_ok-pointer-in-Pointer-clause-made
returns-in_ok-pointer-in-Pointer-clause-made c = λ made.
    c.in_ok-pointer-in-Pointer.ensures.made c.args.m.now
    (made_pointer c.args.m.now c.args.operand.now (pointer_at c.as_pointer-in-Pointer.result) (c.as_pointer-in-Pointer.ensures c.args.m.now) made)

pub returns-in-Integer-clause-kept : goal.returns-in-Integer-clause-kept
returns-in-Integer-clause-kept c = keeps_none c.args.m.now

pub returns-in-NotNull-clause-kept : goal.returns-in-NotNull-clause-kept
returns-in-NotNull-clause-kept c = keeps_none c.args.m.now

pub returns-in-Function-clause-kept : goal.returns-in-Function-clause-kept
returns-in-Function-clause-kept c = keeps_none c.args.m.now

pub returns-in_ok-pointer-in-Pointer-clause-kept : goal.returns-in_ok-pointer-in-Pointer-clause-kept
returns-in_ok-pointer-in-Pointer-clause-kept c = keeps_none c.args.m.now

pub returns-in_err-pointer-in-Pointer-clause-kept : goal.returns-in_err-pointer-in-Pointer-clause-kept
returns-in_err-pointer-in-Pointer-clause-kept c = keeps_none c.args.m.now
