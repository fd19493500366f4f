use Rattle.mem_objects.specs.declared.answer.LibAnswer.TheVariants as answers
use Rattle.mem_objects.specs.Memory.{store_of}
use Rattle.libc_print.proofs.Keeping.{printed_gives}
use Rattle.std.proofs.Common.{List, drop, subst}
use Rattle.mem_objects.specs.declared.value.Value.{Value}
use Rattle.libc_spec.specs.Library.{argument_at}
use Rattle.libc_arguments.specs.Answers.{AreWithin, HaveCells, GivesMade}
use Rattle.libc_arguments.specs.Seen.{values_seen}
use Rattle.libc_print.specs.Seen.{typed}
use Rattle.libc_print.proofs.printf.format.Goals as goal

pub returns-in-Ok-clause-exact : goal.returns-in-Ok-clause-exact
returns-in-Ok-clause-exact c = rw c.as_slice.ensures at c.in-Ok.ensures.exact

pub returns-in-Err-clause-exact : goal.returns-in-Err-clause-exact
returns-in-Err-clause-exact c = rw c.as_slice.ensures at c.in-Err.ensures.exact

pub returns-in-Ok-clause-made : goal.returns-in-Ok-clause-made
returns-in-Ok-clause-made c =
    let m = c.args.m.now in
    let new = c.printed.new in
    subst (λ (xs : List Value). AreWithin c.args.io.now → HaveCells m (values_seen xs) → GivesMade new.m (answers.Value c.in-Ok.value)) c.as_slice.ensures
    (λ within cells. printed_gives new.m (answers.Value c.in-Ok.value) new.t (store_of new.m new.io) (store_of m c.args.io.now)
    new.m.rows (argument_at (values_seen c.as_slice.result.now) 0) (drop 1 (typed c.as_slice.result.now c.args.types.now))
    (c.in-Ok.ensures.exact within cells))

pub returns-in-Err-clause-made : goal.returns-in-Err-clause-made
returns-in-Err-clause-made c =
    let m = c.args.m.now in
    let new = c.printed.new in
    subst (λ (xs : List Value). AreWithin c.args.io.now → HaveCells m (values_seen xs) → GivesMade new.m c.in-Err.answer) c.as_slice.ensures
    (λ within cells. printed_gives new.m c.in-Err.answer new.t (store_of new.m new.io) (store_of m c.args.io.now)
    new.m.rows (argument_at (values_seen c.as_slice.result.now) 0) (drop 1 (typed c.as_slice.result.now c.args.types.now))
    (c.in-Err.ensures.exact within cells))
