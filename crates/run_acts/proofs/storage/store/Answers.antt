use Rattle.std.proofs.Common.{◌≡◌, ◌∙◌, to_z, of_z, rules}
use Rattle.std.specs.Int.{w128}
use Rattle.std.proofs.lemmas.Int.{to_z-of_z}
use Rattle.c_types.specs.Types.{int}
use Rattle.mem_spec.specs.Acts.{store, scalar}
use Rattle.mem_spec.specs.Agreement.{bytes_of_kind}
use Rattle.mem_spec.specs.Bytes.{number_bytes, pointer_bytes}
use Rattle.mem_objects.specs.Memory.{store_of}
use Rattle.c_model.specs.Values.{int_bytes, integer_of, function_in}
use Rattle.run_values.specs.Stores.{CanStore}
use Rattle.run_values.specs.Views.{value_in, pointer_at}
use Rattle.run_acts.proofs.Stores.{ok_then, err_then, ok_under, err_under, done_nothing, raised_nothing, made_pointer}
use Rattle.run_acts.proofs.storage.store.Goals as goal

pub returns-in-Integer-clause-exact : goal.returns-in-Integer-clause-exact
returns-in-Integer-clause-exact c =
    let m = c.args.m.now in
    let new = c.store_number.new.m in
    let p = c.args.place in
    let k = c.in-Integer.kind in
    let number : to_z w128 (of_z w128 c.as_integer.result) ≡ integer_of (value_in m c.args.value.now) =
    to_z-of_z w128 c.as_integer.result (search rules) ∙ c.as_integer.ensures m in
    let did = rw number at c.store_number.ensures.exact in
    rw c.in-Integer.is (ok_then c.store_number.result _ _ (λ given can ty sees io.
    done_nothing m.rows
    (store m.rows c.args.initializing (scalar (int k)) (bytes_of_kind k) p.addr p.prov (int_bytes k (integer_of (value_in m c.args.value.now))))
    (store_of m io) (store_of new io) c.store_number.new.t (given can.cell (scalar (int k)) sees io)) did)

pub returns-in-Integer-clause-raises : goal.returns-in-Integer-clause-raises
returns-in-Integer-clause-raises c =
    let m = c.args.m.now in
    let p = c.args.place in
    let k = c.in-Integer.kind in
    let number : to_z w128 (of_z w128 c.as_integer.result) ≡ integer_of (value_in m c.args.value.now) =
    to_z-of_z w128 c.as_integer.result (search rules) ∙ c.as_integer.ensures m in
    let did = rw number at c.store_number.ensures.raises in
    rw c.in-Integer.is (err_then c.store_number.result _ _ (λ e raised can ty sees io.
    raised_nothing m.rows
    (store m.rows c.args.initializing (scalar (int k)) (bytes_of_kind k) p.addr p.prov (int_bytes k (integer_of (value_in m c.args.value.now))))
    (store_of m io) e (raised (scalar (int k)) sees io)) did)

pub returns-in-Pointer-clause-exact : goal.returns-in-Pointer-clause-exact
returns-in-Pointer-clause-exact c =
    let m = c.args.m.now in
    let new = c.store_pointer.new.m in
    let p = c.args.place in
    let q = c.as_pointer.result in
    rw (c.in-Pointer.is, ← c.as_pointer.ensures m) (ok_under c.store_pointer.result (CanStore m p c.args.value.now) _ _
    (λ can. c.store_pointer.ensures.exact can.named (made_pointer m c.args.value.now (pointer_at q) (c.as_pointer.ensures m) can.made))
    (λ can given ty sees io.
    done_nothing m.rows (store m.rows c.args.initializing (scalar ty) 8 p.addr p.prov (pointer_bytes 8 0 q.prov q.addr)) (store_of m io)
    (store_of new io) c.store_pointer.new.t (given can.cell (scalar ty) sees io)))

pub returns-in-Pointer-clause-raises : goal.returns-in-Pointer-clause-raises
returns-in-Pointer-clause-raises c =
    let m = c.args.m.now in
    let p = c.args.place in
    let q = c.as_pointer.result in
    rw (c.in-Pointer.is, ← c.as_pointer.ensures m) (err_under c.store_pointer.result (CanStore m p c.args.value.now) _ _
    (λ can. c.store_pointer.ensures.raises can.named (made_pointer m c.args.value.now (pointer_at q) (c.as_pointer.ensures m) can.made))
    (λ e can raised ty sees io.
    raised_nothing m.rows (store m.rows c.args.initializing (scalar ty) 8 p.addr p.prov (pointer_bytes 8 0 q.prov q.addr)) (store_of m io) e
    (raised (scalar ty) sees io)))

pub returns-in-Function-clause-exact : goal.returns-in-Function-clause-exact
returns-in-Function-clause-exact c =
    let m = c.args.m.now in
    let new = c.store_function.new.m in
    let p = c.args.place in
    let did = rw (c.as_function.ensures m) at c.store_function.ensures.exact in
    rw c.in-Function.is (ok_then c.store_function.result _ _ (λ given can ty sees io.
    done_nothing m.rows (store m.rows c.args.initializing (scalar ty) 8 p.addr p.prov (number_bytes 8 (function_in (value_in m c.args.value.now))))
    (store_of m io) (store_of new io) c.store_function.new.t (given can.cell (scalar ty) sees io)) did)

pub returns-in-Function-clause-raises : goal.returns-in-Function-clause-raises
returns-in-Function-clause-raises c =
    let m = c.args.m.now in
    let p = c.args.place in
    let did = rw (c.as_function.ensures m) at c.store_function.ensures.raises in
    rw c.in-Function.is (err_then c.store_function.result _ _ (λ e raised can ty sees io.
    raised_nothing m.rows (store m.rows c.args.initializing (scalar ty) 8 p.addr p.prov (number_bytes 8 (function_in (value_in m c.args.value.now))))
    (store_of m io) e (raised (scalar ty) sees io)) did)

pub returns-in-Whole-clause-exact : goal.returns-in-Whole-clause-exact
returns-in-Whole-clause-exact c =
    rw c.in-Whole.is (ok_then c.store_value.result _ _ (λ given can ty sees io. given can.cell io) c.store_value.ensures.exact)

pub returns-in-Whole-clause-raises : goal.returns-in-Whole-clause-raises
returns-in-Whole-clause-raises c =
    rw c.in-Whole.is (err_then c.store_value.result _ _ (λ e raised can ty sees io. raised can.cell io) c.store_value.ensures.raises)

pub returns-in-Pointer-clause-kept : goal.returns-in-Pointer-clause-kept
returns-in-Pointer-clause-kept c = λ numbered sound is.
    c.store_pointer.ensures.kept numbered sound
    (made_pointer c.args.m.now c.args.value.now (pointer_at c.as_pointer.result) (c.as_pointer.ensures c.args.m.now) is.made)
