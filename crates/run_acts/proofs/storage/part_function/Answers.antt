use Rattle.std.proofs.Common.{◌∙◌, sym, ap, List}
use Rattle.std.proofs.lemmas.Result.{err_from_is_err_and}
use Rattle.mem_spec.specs.Script.{run}
use Rattle.mem_spec.specs.Store.{TaggedByte}
use Rattle.mem_objects.specs.Memory.{store_of}
use Rattle.prov_memory.specs.Parts.{part_func}
use Rattle.mem_objects.specs.Pieces.{seen}
use Rattle.c_model.specs.Values.{Fun, part_bytes}
use Rattle.run_acts.proofs.Acts.{done_give, raised_give}
use Rattle.run_acts.proofs.Parts.{seen_part}
use Rattle.run_values.proofs.Keeping.{function_of}
use Rattle.run_acts.proofs.storage.part_function.Goals as goal

pub returns-clause-exact : goal.returns-clause-exact
returns-clause-exact c = λ io.
    let old = c.args.m.now in
    let new = c.part_func.new.self in
    let cells = c.args.block.now.cells in
    done_give old.rows (part_func (part_bytes c.args.offset 8 (seen old cells))) Fun (store_of old io) (store_of new io) c.in_ok-addr.addr c.part_func.new.t
    (ap (λ (bs : List TaggedByte). run old.rows (part_func bs) (store_of old io)) (sym (seen_part old cells c.args.offset 8)) ∙ c.in_ok-addr.ensures.exact io)

pub returns-in_err-addr-clause-raises : goal.returns-in_err-addr-clause-raises
returns-in_err-addr-clause-raises c =
    let e = err_from_is_err_and c.from_residual.result c.from_residual.ensures.1 in
    let old = c.args.m.now in
    let cells = c.args.block.now.cells in
    rw (e.1, e.2) (λ io. raised_give old.rows (part_func (part_bytes c.args.offset 8 (seen old cells))) Fun (store_of old io) c.in_err-addr.field-0.0
    (ap (λ (bs : List TaggedByte). run old.rows (part_func bs) (store_of old io)) (sym (seen_part old cells c.args.offset 8))
    ∙ c.in_err-addr.ensures.raises io))

pub returns-clause-made : goal.returns-clause-made
returns-clause-made c = function_of c.part_func.new.self _
