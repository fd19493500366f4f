use Rattle.std.proofs.Common.{◌∙◌, true, List, replicate, Option, subst, sym, to_z, of_z, rules}
use Rattle.std.specs.Prelude.{Err}
use Rattle.std.specs.Int.{w128}
use Rattle.std.proofs.lemmas.Int.{to_z-of_z}
use Rattle.std.proofs.lemmas.Result.{err_from_is_err_and}
use Rattle.ub_base.specs.declared.names.Item.{Item}
use Rattle.addr_map.specs.declared.map.Row.{Row}
use Rattle.c_types.specs.declared.library.LibFunc.TheVariants.{Memset}
use Rattle.mem_objects.specs.declared.value.Value.{Value}
use Rattle.mem_objects.specs.declared.value.Value.TheVariants.{Ptr}
use Rattle.mem_objects.specs.declared.answer.LibAnswer.TheVariants as answers
use Rattle.mem_spec.specs.Acts.{Accessed}
use Rattle.mem_objects.specs.Memory.{store_of}
use Rattle.libc_spec.specs.Library.{called}
use Rattle.libc_arguments.specs.Seen.{values_seen}
use Rattle.libc_arguments.specs.Answers.{Answers}
use Rattle.libc_arguments.specs.Parts.{Follows, Gives, accessed_if}
use Rattle.libc_arguments.specs.Writes.{target_at}
use Rattle.libc_arguments.proofs.Answering.{one_size}
use Rattle.libc_arguments.proofs.Finishing.{cell_of}
use Rattle.libc_arguments.proofs.Writing.{fill_gives, fill_fails, memset_called}
use Rattle.libc_strings.proofs.ranges.fill.Goals as goal

pub returns-in_err-target-clause-exact : goal.returns-in_err-target-clause-exact
returns-in_err-target-clause-exact c =
    let p = err_from_is_err_and c.from_residual.result c.from_residual.ensures.1 in
    let number = to_z w128 (of_z w128 c.int_at.result) in
    rw (p.1, p.2) (λ io who call.
    memset_called c.args.m.now.rows (values_seen c.args.args.now) who c.pointer_at-to.result.addr c.pointer_at-to.result.prov number c.size_at.result
    (store_of c.args.m.now io) (store_of c.args.m.now io) c.target_of.new.t c.in_err-target.field-0.0
    c.pointer_at-to.ensures (to_z-of_z w128 c.int_at.result (search rules) ∙ c.int_at.ensures)
    (c.size_at.ensures (one_size (values_seen c.args.args.now) 2 call.sizes))
    (fill_fails c.args.m.now io c.target_of.new.t c.pointer_at-to.result.addr c.pointer_at-to.result.prov number c.size_at.result c.in_err-target.field-0.0
    (subst (λ (is : List Item). Follows true (accessed_if c.args.m.now) (Err c.in_err-target.field-0.0) c.args.m.now io is c.target_of.new.t
    (target_at c.args.m.now.rows c.size_at.result c.pointer_at-to.result.addr c.pointer_at-to.result.prov)) c.requires
    (c.in_err-target.ensures.follows io (cell_of c.args.m.now (values_seen c.args.args.now) 0 c.pointer_at-to.result.addr c.pointer_at-to.result.prov
    call.cells c.pointer_at-to.ensures)))))

pub returns-clause-exact : goal.returns-clause-exact
returns-clause-exact c = λ io who call.
    let number = to_z w128 (of_z w128 c.int_at.result) in
    subst (λ (rs : List Row). Answers (answers.Value c.value.result) c.overwrite.new.t (store_of c.overwrite.new.m io)
    (called rs Memset (values_seen c.args.args.now) who (store_of c.args.m.now io))) (sym c.in_ok-overwrite.ensures.rows)
    (subst (λ (v : Value). Answers (answers.Value v) c.overwrite.new.t (store_of c.overwrite.new.m io)
    (called c.args.m.now.rows Memset (values_seen c.args.args.now) who (store_of c.args.m.now io))) (sym c.value.ensures)
    (memset_called c.args.m.now.rows (values_seen c.args.args.now) who c.pointer_at-to.result.addr c.pointer_at-to.result.prov number c.size_at.result
    (store_of c.args.m.now io) (store_of c.overwrite.new.m io) c.overwrite.new.t
    (answers.Value (Ptr c.pointer_at-to.result.addr c.pointer_at-to.result.prov))
    c.pointer_at-to.ensures (to_z-of_z w128 c.int_at.result (search rules) ∙ c.int_at.ensures)
    (c.size_at.ensures (one_size (values_seen c.args.args.now) 2 call.sizes))
    (fill_gives c.args.m.now c.overwrite.new.m io c.target_of.new.t c.overwrite.new.t c.pointer_at-to.result.addr c.pointer_at-to.result.prov number
    c.size_at.result c.len_of.result c.low_byte-number.result c.in_ok-target.target call.streams c.low_byte-number.ensures c.in_ok-target.ensures.range
    c.len_of.ensures
    (subst (λ (is : List Item). Gives true (Option Accessed) c.args.m.now io is c.target_of.new.t
    (target_at c.args.m.now.rows c.size_at.result c.pointer_at-to.result.addr c.pointer_at-to.result.prov) (accessed_if c.args.m.now c.in_ok-target.target))
    c.requires
    (c.in_ok-target.ensures.follows io (cell_of c.args.m.now (values_seen c.args.args.now) 0 c.pointer_at-to.result.addr c.pointer_at-to.result.prov
    call.cells c.pointer_at-to.ensures)))
    c.in_ok-overwrite.ensures.items
    (c.in_ok-overwrite.ensures.store io (replicate c.len_of.result c.low_byte-number.result) c.in_ok-block.ensures))))
