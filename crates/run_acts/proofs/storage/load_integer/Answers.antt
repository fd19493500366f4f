use Rattle.std.proofs.Common.{◌≡◌, ◌∙◌, sym, ap, ℤ, to_z, of_z, rules}
use Rattle.std.specs.Int.{w128}
use Rattle.std.proofs.lemmas.Int.{to_z-of_z}
use Rattle.std.proofs.lemmas.Result.{err_from_is_err_and}
use Rattle.mem_spec.specs.Script.{Done}
use Rattle.mem_spec.specs.Acts.{load_int}
use Rattle.mem_objects.specs.Memory.{store_of}
use Rattle.c_model.specs.Values.{Int}
use Rattle.run_acts.proofs.Acts.{done_give, raised_give}
use Rattle.run_values.proofs.Keeping.{int_of}
use Rattle.run_acts.proofs.storage.load_integer.Goals as goal

pub returns-clause-exact : goal.returns-clause-exact
returns-clause-exact c = λ has io.
    let old = c.args.m.now in
    let p = c.args.place in
    let same : to_z w128 (of_z w128 c.in_ok-number.number) ≡ c.in_ok-number.number = to_z-of_z w128 c.in_ok-number.number (search rules) in
    done_give old.rows (load_int old.rows c.args.kind p.addr p.prov) Int (store_of old io) (store_of c.load_int.new.self io) c.in_ok-number.number
    c.load_int.new.t (c.in_ok-number.ensures.exact has io)
    ∙ ap (λ (z : ℤ). Done (Int z) c.load_int.new.t (store_of c.load_int.new.self io)) (sym same)

pub returns-in_err-number-clause-raises : goal.returns-in_err-number-clause-raises
returns-in_err-number-clause-raises c =
    let e = err_from_is_err_and c.from_residual.result c.from_residual.ensures.1 in
    let old = c.args.m.now in
    let p = c.args.place in
    rw (e.1, e.2) (λ io. raised_give old.rows (load_int old.rows c.args.kind p.addr p.prov) Int (store_of old io) c.in_err-number.field-0.0
    (c.in_err-number.ensures.raises io))

pub returns-clause-made : goal.returns-clause-made
returns-clause-made c = int_of c.load_int.new.self _
