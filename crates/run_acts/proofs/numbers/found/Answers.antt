use Rattle.std.proofs.Common.{◌≡◌, ap, List}
use Rattle.addr_map.specs.declared.map.Row.{Row}
use Rattle.exposure.specs.declared.prov.Prov.{Prov}
use Rattle.mem_spec.specs.Acts.{from_int}
use Rattle.mem_spec.specs.Script.{Done}
use Rattle.mem_objects.specs.Memory.{Kept, store_of}
use Rattle.c_model.specs.Values.{Ptr}
use Rattle.run_acts.proofs.Acts.{done_give, under}
use Rattle.run_values.proofs.Keeping.{pointer_of}
use Rattle.run_acts.proofs.numbers.found.Goals as goal

pub returns-clause-exact : goal.returns-clause-exact
returns-clause-exact c = λ known io.
    let old = c.args.m.now in
    let new = c.from_int.new.self in
    let prov = c.in_ok-prov.prov in
    let rows : new.rows ≡ old.rows = ap (λ (m : Kept). m.rows) c.from_int.ensures.more.rest in
    done_give old.rows (from_int c.args.who c.args.addr) (λ (p : Prov). Ptr c.args.addr p) (store_of old io) (store_of new io) prov c.from_int.new.t
    (under old.rows new.rows (λ (rs : List Row). from_int c.args.who c.args.addr) (store_of old io) (Done prov c.from_int.new.t (store_of new io)) rows
    (c.in_ok-prov.ensures.exact known io))

pub returns-clause-made : goal.returns-clause-made
returns-clause-made c = pointer_of c.from_int.new.self c.args.addr c.in_ok-prov.prov c.in_ok-prov.ensures.value
