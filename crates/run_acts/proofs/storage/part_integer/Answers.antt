use Rattle.std.proofs.Common.{◌≡◌, ◌∙◌, sym, ap, ℤ, List, to_z, of_z, rules}
use Rattle.std.specs.Int.{w128}
use Rattle.std.proofs.lemmas.Int.{to_z-of_z}
use Rattle.std.proofs.lemmas.Result.{err_from_is_err_and}
use Rattle.mem_spec.specs.Agreement.{bytes_of_kind}
use Rattle.mem_spec.specs.Script.{Done, run}
use Rattle.mem_spec.specs.Store.{TaggedByte}
use Rattle.mem_objects.specs.Memory.{store_of}
use Rattle.prov_memory.specs.Parts.{part_int}
use Rattle.mem_objects.specs.Pieces.{seen}
use Rattle.c_model.specs.Values.{Int, part_bytes}
use Rattle.run_acts.proofs.Acts.{done_give, raised_give}
use Rattle.run_acts.proofs.Parts.{seen_part}
use Rattle.run_values.proofs.Keeping.{int_of}
use Rattle.run_acts.proofs.storage.part_integer.Goals as goal

pub returns-clause-exact : goal.returns-clause-exact
returns-clause-exact c = λ io.
    let old = c.args.m.now in
    let new = c.part_int.new.self in
    let k = c.args.kind in
    let n = bytes_of_kind k in
    let cells = c.args.block.now.cells in
    let z = c.in_ok-number.number in
    let same : to_z w128 (of_z w128 z) ≡ z = to_z-of_z w128 z (search rules) in
    done_give old.rows (part_int k (part_bytes c.args.offset n (seen old cells))) Int (store_of old io) (store_of new io) z c.part_int.new.t
    (ap (λ (bs : List TaggedByte). run old.rows (part_int k bs) (store_of old io)) (sym (seen_part old cells c.args.offset n))
    ∙ c.in_ok-number.ensures.exact io)
    ∙ ap (λ (w : ℤ). Done (Int w) c.part_int.new.t (store_of new io)) (sym same)

pub returns-in_err-number-clause-raises : goal.returns-in_err-number-clause-raises
returns-in_err-number-clause-raises c =
    let e = err_from_is_err_and c.from_residual.result c.from_residual.ensures.1 in
    let old = c.args.m.now in
    let k = c.args.kind in
    let n = bytes_of_kind k in
    let cells = c.args.block.now.cells in
    rw (e.1, e.2) (λ io. raised_give old.rows (part_int k (part_bytes c.args.offset n (seen old cells))) Int (store_of old io) c.in_err-number.field-0.0
    (ap (λ (bs : List TaggedByte). run old.rows (part_int k bs) (store_of old io)) (sym (seen_part old cells c.args.offset n))
    ∙ c.in_err-number.ensures.raises io))

pub returns-clause-made : goal.returns-clause-made
returns-clause-made c = int_of c.part_int.new.self _
