use Rattle.std.proofs.Common.{◌≡◌, ◌∙◌, sym, ap, pos, ℤ, List, to_z, of_z, rules}
use Rattle.std.specs.Int.{w128}
use Rattle.std.proofs.lemmas.Int.{to_z-of_z}
use Rattle.std.specs.Prelude.{◌-ℤ◌, ◌/◌}
use Rattle.std.proofs.lemmas.Result.{err_from_is_err_and}
use Rattle.addr_map.specs.declared.map.Row.{Row}
use Rattle.mem_spec.specs.Acts.{diff}
use Rattle.mem_spec.specs.Script.{Done, Raised}
use Rattle.mem_objects.specs.Memory.{store_of}
use Rattle.c_model.specs.Values.{Int}
use Rattle.run_acts.proofs.Acts.{done_give, raised_give, under, rows_rest}
use Rattle.run_values.proofs.Keeping.{int_of}
use Rattle.run_acts.proofs.pointers.distance.Goals as goal

pub returns-clause-exact : goal.returns-clause-exact
returns-clause-exact c = λ made other io.
    let old = c.args.m.now in
    let new = c.diff.new.self in
    let p = c.args.left in
    let q = c.args.right in
    let act = λ (rows : List Row). diff p.addr p.prov q.addr q.prov c.args.size in
    let n = pos (p.addr / c.args.size) -ℤ pos (q.addr / c.args.size) in
    let same : to_z w128 (of_z w128 c.in_ok-count.count) ≡ c.in_ok-count.count = to_z-of_z w128 c.in_ok-count.count (search rules) in
    done_give old.rows (act old.rows) (λ (u : Unit {0}). Int n) (store_of old io) (store_of new io) tt c.diff.new.t
    (under old.rows new.rows act (store_of old io) (Done tt c.diff.new.t (store_of new io)) (rows_rest old new c.diff.ensures.rest)
    (c.in_ok-count.ensures.exact made other io))
    ∙ ap (λ (z : ℤ). Done (Int z) c.diff.new.t (store_of new io)) (sym (same ∙ c.in_ok-count.ensures.value))

pub returns-in_err-count-clause-exact : goal.returns-in_err-count-clause-exact
returns-in_err-count-clause-exact c =
    let e = err_from_is_err_and c.from_residual.result c.from_residual.ensures.1 in
    let old = c.args.m.now in
    let new = c.diff.new.self in
    let p = c.args.left in
    let q = c.args.right in
    let act = λ (rows : List Row). diff p.addr p.prov q.addr q.prov c.args.size in
    let n = pos (p.addr / c.args.size) -ℤ pos (q.addr / c.args.size) in
    rw (e.1, e.2) (λ made other io.
    raised_give old.rows (act old.rows) (λ (u : Unit {0}). Int n) (store_of old io) c.in_err-count.field-0.0
    (under old.rows new.rows act (store_of old io) (Raised c.in_err-count.field-0.0) (rows_rest old new c.diff.ensures.rest)
    (c.in_err-count.ensures.exact made other io)))

pub returns-clause-made : goal.returns-clause-made
returns-clause-made c = int_of c.diff.new.self _
