use Rattle.std.proofs.Common.{◌∙◌, ℤ, List, ap, drop, rules, subst}
use Rattle.std.specs.Int.{w128}
use Rattle.std.proofs.lemmas.Int.{to_z-of_z}
use Rattle.mem_objects.specs.declared.value.Value.{Value}
use Rattle.mem_objects.specs.Memory.{store_of}
use Rattle.libc_spec.specs.Library.{argument_at, integer_in}
use Rattle.libc_spec.specs.Formatted.{printed_to_by}
use Rattle.libc_arguments.specs.Answers.{Answers}
use Rattle.libc_arguments.specs.Seen.{values_seen}
use Rattle.libc_print.specs.Seen.{typed}
use Rattle.mem_objects.specs.declared.answer.LibAnswer.TheVariants as answers
use Rattle.libc_print.proofs.Keeping.{written_by}
use Rattle.libc_arguments.specs.Answers.{AreWithin, HaveCells, GivesMade}
use Rattle.libc_print.proofs.stream.format_to.Goals as goal

pub returns-in-Err-clause-exact : goal.returns-in-Err-clause-exact
returns-in-Err-clause-exact c = λ within cells.
    subst (λ (z : ℤ). Answers c.in-Err.answer c.written.new.t (store_of c.written.new.m c.written.new.io)
    (printed_to_by c.written.new.m.rows z (argument_at (values_seen c.args.args.now) 1) (drop 2 (typed c.args.args.now c.args.types.now))
    (store_of c.args.m.now c.args.io.now)))
    (to_z-of_z w128 c.int_at.result (search rules) ∙ c.int_at.ensures ∙ ap (λ (vs : List Value). integer_in (argument_at (values_seen vs) 0))
    c.as_slice.ensures)
    ((rw c.as_slice-2.ensures at c.in-Err.ensures.exact) within cells)

pub returns-in-Ok-clause-exact : goal.returns-in-Ok-clause-exact
returns-in-Ok-clause-exact c = λ within cells.
    subst (λ (z : ℤ). Answers (answers.Value c.in-Ok.value) c.written.new.t (store_of c.written.new.m c.written.new.io)
    (printed_to_by c.written.new.m.rows z (argument_at (values_seen c.args.args.now) 1) (drop 2 (typed c.args.args.now c.args.types.now))
    (store_of c.args.m.now c.args.io.now)))
    (to_z-of_z w128 c.int_at.result (search rules) ∙ c.int_at.ensures ∙ ap (λ (vs : List Value). integer_in (argument_at (values_seen vs) 0))
    c.as_slice.ensures)
    ((rw c.as_slice-2.ensures at c.in-Ok.ensures.exact) within cells)

pub returns-in-Ok-clause-made : goal.returns-in-Ok-clause-made
returns-in-Ok-clause-made c =
    let m = c.args.m.now in
    let new = c.written.new in
    subst (λ (xs : List Value). AreWithin c.args.io.now → HaveCells m (values_seen xs) → GivesMade new.m (answers.Value c.in-Ok.value)) c.as_slice-2.ensures
    (λ within cells. written_by new.m (answers.Value c.in-Ok.value) new.t (store_of new.m new.io) (store_of m c.args.io.now)
    new.m.rows (to_z-of_z w128 c.int_at.result (search rules)) (argument_at (values_seen c.as_slice-2.result.now) 1)
    (drop 2 (typed c.as_slice-2.result.now c.args.types.now))
    (c.in-Ok.ensures.exact within cells))

pub returns-in-Err-clause-made : goal.returns-in-Err-clause-made
returns-in-Err-clause-made c =
    let m = c.args.m.now in
    let new = c.written.new in
    subst (λ (xs : List Value). AreWithin c.args.io.now → HaveCells m (values_seen xs) → GivesMade new.m c.in-Err.answer) c.as_slice-2.ensures
    (λ within cells. written_by new.m c.in-Err.answer new.t (store_of new.m new.io) (store_of m c.args.io.now)
    new.m.rows (to_z-of_z w128 c.int_at.result (search rules)) (argument_at (values_seen c.as_slice-2.result.now) 1)
    (drop 2 (typed c.as_slice-2.result.now c.args.types.now))
    (c.in-Err.ensures.exact within cells))
