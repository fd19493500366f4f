use Rattle.std.proofs.Common.{◌≡◌, ◌∙◌, ap, subst, ℤ, pos, List, to_z, of_z, rules}
use Rattle.std.specs.Prelude.{unsigned_abs}
use Rattle.std.specs.Int.{w128}
use Rattle.std.proofs.lemmas.Int.{to_z-of_z}
use Rattle.std.proofs.lemmas.Result.{err_from_is_err_and}
use Rattle.addr_map.specs.declared.map.Row.{Row}
use Rattle.c_types.specs.Types.{type_of}
use Rattle.mem_spec.specs.Acts.{shift}
use Rattle.mem_spec.specs.Script.{Done, Raised, run}
use Rattle.mem_objects.specs.Memory.{store_of}
use Rattle.c_model.specs.Nodes.{distance}
use Rattle.run_values.specs.Views.{pointer_at}
use Rattle.run_acts.proofs.Acts.{under, rows_rest}
use Rattle.c_model.specs.Values.{Ptr}
use Rattle.run_acts.proofs.Moves.{shift_value}
use Rattle.run_acts.proofs.Stores.{raise_then}
use Rattle.run_acts.proofs.Updates.{pointer_changed, pointer_out, pointer_unread}
use Rattle.prov_memory.proofs.KeepLemmas.{keeps_then}
use Rattle.run_values.proofs.Keeping.{seen_pointer}
use Rattle.run_acts.proofs.pointers.changed_pointer.Goals as goal

pub returns-clause-exact : goal.returns-clause-exact
returns-clause-exact c = λ can near old io.
    let m = c.args.m.now in
    let one = c.pointer_there.new.m in
    let two = c.shift.new.self in
    let q = c.in_ok-old.old in
    let a = c.in_ok-addr.addr in
    let d = distance c.args.size c.args.subtract c.args.operand in
    let end = Done (pos a) c.shift.new.t (store_of two io) in
    let number : to_z w128 (of_z w128 c.args.operand) ≡ c.args.operand = to_z-of_z w128 c.args.operand (search rules) in
    let wide : to_z w128 (of_z w128 c.distance_of-by.result) ≡ c.distance_of-by.result = to_z-of_z w128 c.distance_of-by.result (search rules) in
    let far = rw number at c.distance_of-by.ensures in
    let by : to_z w128 (of_z w128 c.distance_of-by.result) ≡ d = wide ∙ far near in
    let rows : two.rows ≡ m.rows = rows_rest one two c.shift.ensures.rest ∙ c.pointer_there.ensures.rows in
    let moved : run m.rows (shift m.rows q.addr q.prov d) (store_of one io) ≡ end =
    under m.rows two.rows (λ (rs : List Row). shift rs q.addr q.prov d) (store_of one io) end rows
    (subst (λ (z : ℤ). run two.rows (shift two.rows q.addr q.prov z) (store_of one io) ≡ end) by
    (c.in_ok-addr.ensures.exact (c.in_ok-old.ensures.made can.sound) io)) in
    rw (c.value-before.ensures two, c.value-after.ensures two, c.in_ok-join.ensures.ok)
    (pointer_changed m.rows c.args.who (type_of c.args.ty.now) (pointer_at c.args.place) c.args.size c.args.subtract old c.args.operand
    (store_of m io) (store_of one io) (pointer_at q) (pos a) c.pointer_there.new.t c.shift.new.t (store_of two io)
    (c.in_ok-old.ensures.exact can.cell can.sound.known io) (shift_value m.rows q.addr q.prov d (pos a) (store_of one io) (store_of two io) c.shift.new.t moved)
    moved)

pub returns-clause-after : goal.returns-clause-after
returns-clause-after c = λ can near io.
    let m = c.args.m.now in
    let one = c.pointer_there.new.m in
    let two = c.shift.new.self in
    let q = c.in_ok-old.old in
    let a = c.in_ok-addr.addr in
    let d = distance c.args.size c.args.subtract c.args.operand in
    let end = Done (pos a) c.shift.new.t (store_of two io) in
    let number : to_z w128 (of_z w128 c.args.operand) ≡ c.args.operand = to_z-of_z w128 c.args.operand (search rules) in
    let wide : to_z w128 (of_z w128 c.distance_of-by.result) ≡ c.distance_of-by.result = to_z-of_z w128 c.distance_of-by.result (search rules) in
    let far = rw number at c.distance_of-by.ensures in
    let by : to_z w128 (of_z w128 c.distance_of-by.result) ≡ d = wide ∙ far near in
    let moved : run two.rows (shift two.rows q.addr q.prov d) (store_of one io) ≡ end =
    subst (λ (z : ℤ). run two.rows (shift two.rows q.addr q.prov z) (store_of one io) ≡ end) by
    (c.in_ok-addr.ensures.exact (c.in_ok-old.ensures.made can.sound) io) in
    rw (c.value-before.ensures two, c.value-after.ensures two)
    (ap (λ (z : ℤ). Ptr (unsigned_abs z) q.prov)
    (shift_value two.rows q.addr q.prov d (pos a) (store_of one io) (store_of two io) c.shift.new.t moved))

pub returns-in_err-old-clause-raises : goal.returns-in_err-old-clause-raises
returns-in_err-old-clause-raises c =
    let e = err_from_is_err_and c.from_residual.result c.from_residual.ensures.1 in
    let m = c.args.m.now in
    rw (e.1, e.2) (raise_then c.in_err-old.field-0.0 _ _ (λ k unread can near old io.
    pointer_unread m.rows c.args.who (type_of c.args.ty.now) (pointer_at c.args.place) c.args.size c.args.subtract old c.args.operand
    (store_of m io) (store_of m io) k (unread io)) c.in_err-old.ensures.raises)

pub returns-in_err-addr-clause-raises : goal.returns-in_err-addr-clause-raises
returns-in_err-addr-clause-raises c =
    let e = err_from_is_err_and c.from_residual-in_err-addr.result c.from_residual-in_err-addr.ensures.1 in
    let m = c.args.m.now in
    let one = c.pointer_there.new.m in
    let two = c.shift.new.self in
    let q = c.in_ok-old.old in
    let k = c.in_err-addr.field-0.0 in
    let d = distance c.args.size c.args.subtract c.args.operand in
    let number : to_z w128 (of_z w128 c.args.operand) ≡ c.args.operand = to_z-of_z w128 c.args.operand (search rules) in
    let wide : to_z w128 (of_z w128 c.distance_of-by.result) ≡ c.distance_of-by.result = to_z-of_z w128 c.distance_of-by.result (search rules) in
    let far = rw number at c.distance_of-by.ensures in
    let rows : two.rows ≡ m.rows = rows_rest one two c.shift.ensures.rest ∙ c.pointer_there.ensures.rows in
    rw (e.1, e.2) (λ can near old io.
    pointer_out m.rows c.args.who (type_of c.args.ty.now) (pointer_at c.args.place) c.args.size c.args.subtract old c.args.operand
    (store_of m io) (store_of one io) (pointer_at q) c.pointer_there.new.t k (c.in_ok-old.ensures.exact can.cell can.sound.known io)
    (under m.rows two.rows (λ (rs : List Row). shift rs q.addr q.prov d) (store_of one io) (Raised k) rows
    (subst (λ (z : ℤ). run two.rows (shift two.rows q.addr q.prov z) (store_of one io) ≡ Raised k) (wide ∙ far near)
    (c.in_err-addr.ensures.exact (c.in_ok-old.ensures.made can.sound) io))))

pub returns-in_err-addr-clause-kept : goal.returns-in_err-addr-clause-kept
returns-in_err-addr-clause-kept c =
    keeps_then c.args.m.now c.pointer_there.new.m c.shift.new.self c.pointer_there.ensures.kept c.shift.ensures.kept

pub returns-in_err-join-clause-kept : goal.returns-in_err-join-clause-kept
returns-in_err-join-clause-kept c =
    keeps_then c.args.m.now c.pointer_there.new.m c.shift.new.self c.pointer_there.ensures.kept c.shift.ensures.kept

pub returns-clause-kept : goal.returns-clause-kept
returns-clause-kept c =
    keeps_then c.args.m.now c.pointer_there.new.m c.shift.new.self c.pointer_there.ensures.kept c.shift.ensures.kept

pub returns-clause-made : goal.returns-clause-made
returns-clause-made c = λ sound.
    let two = c.shift.new.self in
    let q = c.in_ok-old.old in
    let made = c.shift.ensures.made q.prov (c.in_ok-old.ensures.made sound) in (
      seen_pointer two two c.value-before.result (pointer_at q) (c.value-before.ensures two) made,
      seen_pointer two two c.value-after.result (pointer_at (record { addr = c.in_ok-addr.addr; prov = q.prov })) (c.value-after.ensures two) made,
    )
