use Rattle.std.proofs.Common.{true, List, sym, subst}
use Rattle.std.specs.Prelude.{Err}
use Rattle.std.proofs.lemmas.Result.{err_from_is_err_and}
use Rattle.ub_base.specs.declared.names.Item.{Item}
use Rattle.addr_map.specs.declared.map.Row.{Row}
use Rattle.mem_objects.specs.declared.value.Value.{Value}
use Rattle.mem_objects.specs.declared.value.Value.TheVariants.{Ptr}
use Rattle.mem_objects.specs.declared.answer.LibAnswer.TheVariants as answers
use Rattle.mem_objects.specs.Memory.{store_of}
use Rattle.libc_spec.specs.Library.{called}
use Rattle.libc_arguments.specs.Seen.{values_seen}
use Rattle.libc_arguments.specs.Answers.{Answers, copy_function}
use Rattle.libc_arguments.specs.Parts.{Follows, Gives, accessed_if}
use Rattle.libc_arguments.specs.Writes.{ranges_to_copy}
use Rattle.libc_strings.specs.declared.ranges.Ranges.{Ranges}
use Rattle.libc_arguments.proofs.Finishing.{cell_of}
use Rattle.libc_arguments.proofs.Copying.{Ranged, copy_size}
use Rattle.libc_arguments.proofs.Moving.{move_gives, move_fails, memmove_called, typed_copy, even_ranges}
use Rattle.libc_strings.proofs.ranges.copy.Goals as goal

pub move_bytes-requires-clause-even : goal.move_bytes-requires-clause-even
move_bytes-requires-clause-even c = even_ranges c.size_at.result c.in_ok-ranges.ranges.target c.in_ok-ranges.ranges.source c.in_ok-ranges.ensures.target
    c.in_ok-ranges.ensures.source

pub returns-in_err-ranges-clause-exact : goal.returns-in_err-ranges-clause-exact
returns-in_err-ranges-clause-exact c =
    let p = err_from_is_err_and c.from_residual.result c.from_residual.ensures.1 in
    rw (p.1, p.2) (λ io who call.
    memmove_called c.args.may_overlap c.args.m.now.rows (values_seen c.args.args.now) who c.pointer_at-to.result.addr c.pointer_at-from.result.addr
    c.pointer_at-to.result.prov c.pointer_at-from.result.prov c.size_at.result (store_of c.args.m.now io) (store_of c.args.m.now io) c.ranges_to_copy.new.t
    c.in_err-ranges.field-0.0 c.pointer_at-to.ensures c.pointer_at-from.ensures
    (c.size_at.ensures (copy_size c.args.may_overlap (values_seen c.args.args.now) call.sizes))
    (move_fails (λ (r : Ranges). (accessed_if c.args.m.now r.target, accessed_if c.args.m.now r.source)) c.args.m.now io c.ranges_to_copy.new.t
    c.args.may_overlap c.pointer_at-to.result.addr c.pointer_at-to.result.prov c.pointer_at-from.result.addr c.pointer_at-from.result.prov c.size_at.result
    c.in_err-ranges.field-0.0
    (subst (λ (is : List Item). Follows true (λ (r : Ranges). (accessed_if c.args.m.now r.target, accessed_if c.args.m.now r.source))
    (Err c.in_err-ranges.field-0.0) c.args.m.now io is c.ranges_to_copy.new.t
    (ranges_to_copy c.args.m.now.rows c.args.may_overlap c.pointer_at-to.result.addr c.pointer_at-to.result.prov c.pointer_at-from.result.addr
    c.pointer_at-from.result.prov c.size_at.result)) c.requires
    (c.in_err-ranges.ensures.follows io (cell_of c.args.m.now (values_seen c.args.args.now) 0 c.pointer_at-to.result.addr c.pointer_at-to.result.prov
    call.cells c.pointer_at-to.ensures) (cell_of c.args.m.now (values_seen c.args.args.now) 1 c.pointer_at-from.result.addr c.pointer_at-from.result.prov
    call.cells c.pointer_at-from.ensures)))))

pub returns-clause-exact : goal.returns-clause-exact
returns-clause-exact c = λ io who call.
    subst (λ (rs : List Row). Answers (answers.Value c.value.result) c.move_bytes.new.t (store_of c.move_bytes.new.m io)
    (called rs (copy_function c.args.may_overlap) (values_seen c.args.args.now) who (store_of c.args.m.now io))) (sym c.in_ok-move_bytes.ensures.rows)
    (subst (λ (v : Value). Answers (answers.Value v) c.move_bytes.new.t (store_of c.move_bytes.new.m io)
    (called c.args.m.now.rows (copy_function c.args.may_overlap) (values_seen c.args.args.now) who (store_of c.args.m.now io))) (sym c.value.ensures)
    (memmove_called c.args.may_overlap c.args.m.now.rows (values_seen c.args.args.now) who c.pointer_at-to.result.addr c.pointer_at-from.result.addr
    c.pointer_at-to.result.prov c.pointer_at-from.result.prov c.size_at.result (store_of c.args.m.now io)
    (store_of c.move_bytes.new.m io) c.move_bytes.new.t (answers.Value (Ptr c.pointer_at-to.result.addr c.pointer_at-to.result.prov))
    c.pointer_at-to.ensures c.pointer_at-from.ensures (c.size_at.ensures (copy_size c.args.may_overlap (values_seen c.args.args.now) call.sizes))
    (move_gives c.args.m.now c.move_bytes.new.m io c.ranges_to_copy.new.t c.move_bytes.new.t c.args.may_overlap c.pointer_at-to.result.addr
    c.pointer_at-to.result.prov c.pointer_at-from.result.addr c.pointer_at-from.result.prov c.size_at.result c.in_ok-ranges.ranges.target
    c.in_ok-ranges.ranges.source call.streams c.in_ok-ranges.ensures.target c.in_ok-ranges.ensures.source (sym c.in_ok-ranges.ensures.writable)
    (typed_copy c.args.may_overlap c.args.m.now call.tags)
    (subst (λ (is : List Item). Gives true Ranged c.args.m.now io is c.ranges_to_copy.new.t
    (ranges_to_copy c.args.m.now.rows c.args.may_overlap c.pointer_at-to.result.addr c.pointer_at-to.result.prov c.pointer_at-from.result.addr
    c.pointer_at-from.result.prov c.size_at.result) (
      accessed_if c.args.m.now c.in_ok-ranges.ranges.target,
      accessed_if c.args.m.now c.in_ok-ranges.ranges.source,
    )) c.requires
    (c.in_ok-ranges.ensures.follows io (cell_of c.args.m.now (values_seen c.args.args.now) 0 c.pointer_at-to.result.addr c.pointer_at-to.result.prov
    call.cells c.pointer_at-to.ensures) (cell_of c.args.m.now (values_seen c.args.args.now) 1 c.pointer_at-from.result.addr c.pointer_at-from.result.prov
    call.cells c.pointer_at-from.ensures)))
    c.in_ok-move_bytes.ensures.items (c.in_ok-move_bytes.ensures.store io))))
