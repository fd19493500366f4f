use Rattle.std.proofs.Common.{◌≡◌, ◌∙◌, ℕ, ℤ, List, length, map, cond, ap, sym, subst, rules, pos, to_z, of_z}
use Rattle.std.specs.Prelude.{Ok, Err}
use Rattle.std.specs.Int.{w128}
use Rattle.std.proofs.lemmas.Int.{to_z-of_z}
use Rattle.std.proofs.lemmas.Result.{err_from_is_err_and}
use Rattle.ub_base.specs.declared.clause.Clause.TheVariants.{LibraryArgument}
use Rattle.ub_base.specs.declared.names.Item.{Item}
use Rattle.mem_objects.specs.declared.value.Value.TheVariants.{Int}
use Rattle.mem_objects.specs.declared.answer.LibAnswer.TheVariants as answers
use Rattle.mem_objects.specs.Cells.{plain_cell}
use Rattle.mem_objects.specs.Memory.{store_of}
use Rattle.mem_spec.specs.Script.{run}
use Rattle.libc_spec.specs.Formatted.{ended, room}
use Rattle.libc_arguments.specs.Answers.{Answers}
use Rattle.libc_print.specs.Calls.{limited}
use Rattle.libc_print.specs.Stored.{overlaps, storing}
use Rattle.libc_print.proofs.Storing.{store_overlaps, store_gives}
use Rattle.libc_print.proofs.stored.put_in.Goals as goal

pub returns-in_err-check_apart-clause-exact : goal.returns-in_err-check_apart-clause-exact
returns-in_err-check_apart-clause-exact c =
    let p = err_from_is_err_and c.from_residual.result c.from_residual.ensures.1 in
    rw (p.1, p.2) (λ script io within g. store_overlaps c.args.m.now io c.args.t.now c.args.t.now c.args.most script c.args.placed.now.text.items
    c.args.placed.now.target c.in_err-check_apart.field-0.0 c.check_apart.result c.requires.fills g c.in_err-check_apart.was
    (subst (λ (is : List Item). c.check_apart.result ≡ cond (overlaps c.args.placed.now.target is) (Err LibraryArgument) (Ok tt)) c.items.ensures
    c.check_apart.ensures))

pub returns-clause-exact : goal.returns-clause-exact
returns-clause-exact c = λ script io within g.
    let value : to_z w128 (of_z w128 c.from.result) ≡ c.from.result = to_z-of_z w128 c.from.result (search rules) in
    let size : c.room.result ≡ room c.args.most (length c.args.placed.now.text.items) =
    c.room.ensures ∙ ap (λ (n : ℕ). room c.args.most n) (ap length c.as_slice-text.ensures.value) in
    let bytes : c.in_ok-bytes.bytes.items ≡ ended (room c.args.most (length c.args.placed.now.text.items)) c.args.placed.now.text.items =
    c.in_ok-bytes.ensures ∙ ap (λ (n : ℕ). ended n c.as_slice-text.result.now) size ∙ ap
    (λ (l : List ℕ). ended (room c.args.most (length c.args.placed.now.text.items)) l) c.as_slice-text.ensures.value in
    subst (λ (z : ℤ). Answers (answers.Value (Int z)) c.overwrite.new.t (store_of c.overwrite.new.m io)
    (limited (run c.overwrite.new.m.rows (storing c.args.most (script c.overwrite.new.m.rows)) (store_of c.args.m.now io))))
    (sym (value ∙ c.from.ensures ∙ ap pos (ap length c.as_slice-text.ensures.value)))
    (store_gives c.args.m.now c.overwrite.new.m io c.args.t.now c.overwrite.new.t c.args.most script c.args.placed.now.text.items
    c.args.placed.now.target c.check_apart.result within c.requires.fills g c.in_ok-check_apart.was
    (subst (λ (is : List Item). c.check_apart.result ≡ cond (overlaps c.args.placed.now.target is) (Err LibraryArgument) (Ok tt)) c.items.ensures
    c.check_apart.ensures)
    c.in_ok-overwrite.ensures.rows c.in_ok-overwrite.ensures.items
    (c.in_ok-overwrite.ensures.store io (ended (room c.args.most (length c.args.placed.now.text.items)) c.args.placed.now.text.items)
    (c.in_ok-block.ensures ∙ ap (map plain_cell) (c.as_slice.ensures.value ∙ bytes))))
