use Rattle.std.proofs.lemmas.Result.{err_from_is_err_and}
use Rattle.c_types.specs.Types.{type_of}
use Rattle.mem_spec.specs.Acts.{load_func}
use Rattle.mem_objects.specs.Memory.{store_of}
use Rattle.c_model.specs.Values.{Fun}
use Rattle.run_acts.proofs.Acts.{done_give, raised_give}
use Rattle.run_values.proofs.Keeping.{function_of}
use Rattle.run_acts.proofs.storage.load_function.Goals as goal

pub returns-clause-exact : goal.returns-clause-exact
returns-clause-exact c = λ has io.
    let old = c.args.m.now in
    let p = c.args.place in
    done_give old.rows (load_func old.rows (type_of c.args.ty.now) p.addr p.prov) Fun (store_of old io) (store_of c.load_func.new.self io) c.in_ok-addr.addr
    c.load_func.new.t (c.in_ok-addr.ensures.exact has io)

pub returns-in_err-addr-clause-raises : goal.returns-in_err-addr-clause-raises
returns-in_err-addr-clause-raises c =
    let e = err_from_is_err_and c.from_residual.result c.from_residual.ensures.1 in
    let old = c.args.m.now in
    let p = c.args.place in
    rw (e.1, e.2) (λ io. raised_give old.rows (load_func old.rows (type_of c.args.ty.now) p.addr p.prov) Fun (store_of old io) c.in_err-addr.field-0.0
    (c.in_err-addr.ensures.raises io))

pub returns-clause-made : goal.returns-clause-made
returns-clause-made c = function_of c.load_func.new.self _
