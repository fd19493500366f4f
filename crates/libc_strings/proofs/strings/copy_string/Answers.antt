use Rattle.std.proofs.Common.{◌∙◌, false, List, map, ap, subst, sym}
use Rattle.std.specs.Prelude.{Err}
use Rattle.std.proofs.lemmas.Result.{err_from_is_err_and}
use Rattle.ub_base.specs.declared.names.Item.{Item}
use Rattle.addr_map.specs.declared.map.Row.{Row}
use Rattle.c_types.specs.declared.library.LibFunc.TheVariants.{Strcpy}
use Rattle.mem_objects.specs.declared.value.Value.{Value}
use Rattle.mem_objects.specs.declared.value.Value.TheVariants.{Ptr}
use Rattle.mem_objects.specs.declared.answer.LibAnswer.TheVariants as answers
use Rattle.mem_objects.specs.Cells.{plain_cell}
use Rattle.mem_objects.specs.Memory.{store_of}
use Rattle.libc_spec.specs.Library.{called}
use Rattle.libc_arguments.specs.Seen.{values_seen}
use Rattle.libc_arguments.specs.Answers.{Answers}
use Rattle.libc_arguments.specs.Parts.{Follows, Gives, accessed_if}
use Rattle.libc_arguments.specs.Writes.{string_to_copy}
use Rattle.libc_strings.specs.declared.strings.StringCopy.{StringCopy}
use Rattle.libc_arguments.proofs.Finishing.{cell_of}
use Rattle.libc_arguments.proofs.Copying.{Copied, copy_gives, copy_fails, strcpy_called}
use Rattle.libc_strings.proofs.strings.copy_string.Goals as goal

pub returns-in_err-copy-clause-exact : goal.returns-in_err-copy-clause-exact
returns-in_err-copy-clause-exact c =
    let p = err_from_is_err_and c.from_residual.result c.from_residual.ensures.1 in
    rw (p.1, p.2) (λ io who call.
    strcpy_called c.args.m.now.rows (values_seen c.args.args.now) who c.pointer_at-to.result.addr c.pointer_at.result.addr c.pointer_at-to.result.prov
    c.pointer_at.result.prov (store_of c.args.m.now io) (store_of c.args.m.now io) c.string_to_copy.new.t c.in_err-copy.field-0.0 c.pointer_at-to.ensures
    c.pointer_at.ensures
    (copy_fails (λ (copy : StringCopy). (copy.numbers.items, accessed_if c.args.m.now copy.target)) c.args.m.now io c.string_to_copy.new.t
    c.pointer_at-to.result.addr c.pointer_at-to.result.prov c.pointer_at.result.addr c.pointer_at.result.prov c.in_err-copy.field-0.0
    (subst (λ (is : List Item). Follows false (λ (copy : StringCopy). (copy.numbers.items, accessed_if c.args.m.now copy.target))
    (Err c.in_err-copy.field-0.0) c.args.m.now io is c.string_to_copy.new.t
    (string_to_copy c.args.m.now.rows c.pointer_at-to.result.addr c.pointer_at-to.result.prov c.pointer_at.result.addr c.pointer_at.result.prov)) c.requires
    (c.in_err-copy.ensures.follows io (cell_of c.args.m.now (values_seen c.args.args.now) 0 c.pointer_at-to.result.addr c.pointer_at-to.result.prov call.cells
    c.pointer_at-to.ensures) (cell_of c.args.m.now (values_seen c.args.args.now) 1 c.pointer_at.result.addr c.pointer_at.result.prov call.cells
    c.pointer_at.ensures)))))

pub returns-clause-exact : goal.returns-clause-exact
returns-clause-exact c = λ io who call.
    subst (λ (rs : List Row). Answers (answers.Value c.value.result) c.overwrite.new.t (store_of c.overwrite.new.m io)
    (called rs Strcpy (values_seen c.args.args.now) who (store_of c.args.m.now io))) (sym c.in_ok-overwrite.ensures.rows)
    (subst (λ (v : Value). Answers (answers.Value v) c.overwrite.new.t (store_of c.overwrite.new.m io)
    (called c.args.m.now.rows Strcpy (values_seen c.args.args.now) who (store_of c.args.m.now io))) (sym c.value.ensures)
    (strcpy_called c.args.m.now.rows (values_seen c.args.args.now) who c.pointer_at-to.result.addr c.pointer_at.result.addr c.pointer_at-to.result.prov
    c.pointer_at.result.prov (store_of c.args.m.now io) (store_of c.overwrite.new.m io) c.overwrite.new.t
    (answers.Value (Ptr c.pointer_at-to.result.addr c.pointer_at-to.result.prov)) c.pointer_at-to.ensures c.pointer_at.ensures
    (copy_gives c.args.m.now c.overwrite.new.m io c.string_to_copy.new.t c.overwrite.new.t c.pointer_at-to.result.addr c.pointer_at-to.result.prov
    c.pointer_at.result.addr c.pointer_at.result.prov c.in_ok-copy.copy.numbers.items c.in_ok-copy.copy.target call.streams c.in_ok-copy.ensures.len
    (subst (λ (is : List Item). Gives false Copied c.args.m.now io is c.string_to_copy.new.t
    (string_to_copy c.args.m.now.rows c.pointer_at-to.result.addr c.pointer_at-to.result.prov c.pointer_at.result.addr c.pointer_at.result.prov)
    (c.in_ok-copy.copy.numbers.items, accessed_if c.args.m.now c.in_ok-copy.copy.target)) c.requires
    (c.in_ok-copy.ensures.follows io (cell_of c.args.m.now (values_seen c.args.args.now) 0 c.pointer_at-to.result.addr c.pointer_at-to.result.prov call.cells
    c.pointer_at-to.ensures) (cell_of c.args.m.now (values_seen c.args.args.now) 1 c.pointer_at.result.addr c.pointer_at.result.prov call.cells
    c.pointer_at.ensures)))
    c.in_ok-overwrite.ensures.items
    (c.in_ok-overwrite.ensures.store io c.in_ok-copy.copy.numbers.items (c.in_ok-block.ensures ∙ ap (map plain_cell) c.as_slice.ensures.value)))))
