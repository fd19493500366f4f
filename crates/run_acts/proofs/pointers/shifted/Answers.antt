use Rattle.std.proofs.Common.{◌≡◌, pos, ℤ, List, subst, to_z, of_z, rules}
use Rattle.std.specs.Int.{w128}
use Rattle.std.proofs.lemmas.Int.{to_z-of_z}
use Rattle.std.specs.Prelude.{unsigned_abs}
use Rattle.std.proofs.lemmas.Result.{err_from_is_err_and}
use Rattle.addr_map.specs.declared.map.Row.{Row}
use Rattle.mem_spec.specs.Acts.{shift}
use Rattle.mem_spec.specs.Script.{Done, Raised, run}
use Rattle.mem_objects.specs.Memory.{store_of}
use Rattle.c_model.specs.Values.{Ptr}
use Rattle.run_acts.proofs.Acts.{done_give, raised_give, under, rows_rest}
use Rattle.run_acts.proofs.pointers.shifted.Goals as goal

pub returns-clause-exact : goal.returns-clause-exact
returns-clause-exact c = λ made io.
    let old = c.args.m.now in
    let new = c.shift.new.self in
    let prov = c.args.pointer.prov in
    let act = λ (rows : List Row). shift rows c.args.pointer.addr prov c.args.by in
    let same : to_z w128 (of_z w128 c.args.by) ≡ c.args.by = to_z-of_z w128 c.args.by (search rules) in
    let end = Done (pos c.in_ok-addr.addr) c.shift.new.t (store_of new io) in
    done_give old.rows (act old.rows) (λ (z : ℤ). Ptr (unsigned_abs z) prov) (store_of old io) (store_of new io) (pos c.in_ok-addr.addr) c.shift.new.t
    (under old.rows new.rows act (store_of old io) end (rows_rest old new c.shift.ensures.rest)
    (subst (λ (z : ℤ). run new.rows (shift new.rows c.args.pointer.addr prov z) (store_of old io) ≡ end) same (c.in_ok-addr.ensures.exact made io)))

pub returns-in_err-addr-clause-exact : goal.returns-in_err-addr-clause-exact
returns-in_err-addr-clause-exact c =
    let p = err_from_is_err_and c.from_residual.result c.from_residual.ensures.1 in
    let old = c.args.m.now in
    let new = c.shift.new.self in
    let prov = c.args.pointer.prov in
    let act = λ (rows : List Row). shift rows c.args.pointer.addr prov c.args.by in
    let same : to_z w128 (of_z w128 c.args.by) ≡ c.args.by = to_z-of_z w128 c.args.by (search rules) in
    rw (p.1, p.2) (λ made io.
    raised_give old.rows (act old.rows) (λ (z : ℤ). Ptr (unsigned_abs z) prov) (store_of old io) c.in_err-addr.field-0.0
    (under old.rows new.rows act (store_of old io) (Raised c.in_err-addr.field-0.0) (rows_rest old new c.shift.ensures.rest)
    (subst (λ (z : ℤ). run new.rows (shift new.rows c.args.pointer.addr prov z) (store_of old io) ≡ Raised c.in_err-addr.field-0.0) same
    (c.in_err-addr.ensures.exact made io))))

pub returns-clause-made : goal.returns-clause-made
returns-clause-made c = c.shift.ensures.made c.args.pointer.prov
