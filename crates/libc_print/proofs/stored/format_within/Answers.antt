use Rattle.std.proofs.Common.{ℕ, Some, drop, subst}
use Rattle.mem_objects.specs.Memory.{store_of}
use Rattle.libc_spec.specs.Library.{argument_at}
use Rattle.libc_spec.specs.Formatted.{stored_by}
use Rattle.libc_arguments.specs.Answers.{Answers}
use Rattle.libc_arguments.specs.Seen.{values_seen}
use Rattle.libc_print.specs.Seen.{typed}
use Rattle.mem_objects.specs.declared.answer.LibAnswer.TheVariants as answers
use Rattle.libc_arguments.proofs.Living.{no_streams}
use Rattle.libc_print.proofs.Keeping.{silent_within, stored_gives}
use Rattle.std.proofs.Common.{List}
use Rattle.mem_objects.specs.declared.value.Value.{Value}
use Rattle.libc_arguments.specs.Answers.{HaveCells, GivesMade}
use Rattle.libc_print.proofs.stored.format_within.Goals as goal

pub returns-in-Err-clause-exact : goal.returns-in-Err-clause-exact
returns-in-Err-clause-exact c = λ io within size cells.
    subst (λ (n : ℕ). Answers c.in-Err.answer c.stored.new.t (store_of c.stored.new.m io)
    (stored_by c.stored.new.m.rows (Some n) (argument_at (values_seen c.args.args.now) 0) (argument_at (values_seen c.args.args.now) 2)
    (drop 3 (typed c.args.args.now c.args.types.now)) (store_of c.args.m.now io)))
    ((rw c.as_slice.ensures at c.size_at.ensures) size) ((rw c.as_slice-2.ensures at c.in-Err.ensures.exact) io within cells)

pub returns-in-Ok-clause-made : goal.returns-in-Ok-clause-made
returns-in-Ok-clause-made c =
    let m = c.args.m.now in
    subst (λ (xs : List Value). HaveCells m (values_seen xs) → GivesMade c.stored.new.m (answers.Value c.in-Ok.value)) c.as_slice-2.ensures
    (λ cells. stored_gives c.stored.new.m (answers.Value c.in-Ok.value) c.stored.new.t (store_of c.stored.new.m no_streams) (store_of m no_streams)
    c.stored.new.m.rows (Some c.size_at.result) (argument_at (values_seen c.as_slice-2.result.now) 0) (argument_at (values_seen c.as_slice-2.result.now) 2)
    (drop 3 (typed c.as_slice-2.result.now c.args.types.now)) (c.in-Ok.ensures.exact no_streams silent_within cells))

pub returns-in-Err-clause-made : goal.returns-in-Err-clause-made
returns-in-Err-clause-made c =
    let m = c.args.m.now in
    subst (λ (xs : List Value). HaveCells m (values_seen xs) → GivesMade c.stored.new.m c.in-Err.answer) c.as_slice-2.ensures
    (λ cells. stored_gives c.stored.new.m c.in-Err.answer c.stored.new.t (store_of c.stored.new.m no_streams) (store_of m no_streams)
    c.stored.new.m.rows (Some c.size_at.result) (argument_at (values_seen c.as_slice-2.result.now) 0) (argument_at (values_seen c.as_slice-2.result.now) 2)
    (drop 3 (typed c.as_slice-2.result.now c.args.types.now)) (c.in-Err.ensures.exact no_streams silent_within cells))
