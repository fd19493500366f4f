use Rattle.std.proofs.Common.{ℕ, ◌+◌, ◌^◌, min, max}
use Rattle.std.specs.Prelude.{nat_lt}
use Rattle.std.proofs.lemmas.Result.{err_from_is_err_and}
use Rattle.ub_base.specs.declared.clause.Cause.TheVariants.{Created}
use Rattle.mem_objects.specs.declared.answer.LibAnswer.TheVariants as answers
use Rattle.mem_objects.specs.Memory.{store_of}
use Rattle.libc_heap.proofs.Allocating.{within_split}
use Rattle.libc_heap.proofs.Making.{made_value}
use Rattle.libc_heap.proofs.Resizing.{refused_does, null_does, limit_does, failing_does, done_does, begins_at, can_settle_start, rows_rest}
use Rattle.libc_heap.proofs.Carrying.{but_known}
use Rattle.libc_arguments.proofs.Keeping.{pointer_made}
use Rattle.libc_heap.proofs.heap.resize.Goals as goal

pub move_to-requires : goal.move_to-requires
move_to-requires c = begins_at c.args.m.now c.args.pointer.addr c.args.pointer.prov c.in-Some.object c.in-Some.settles c.requires.start c.in-Some.ensures

pub returns-in_default-clause-exact : goal.returns-in_default-clause-exact
returns-in_default-clause-exact c = λ io can has. refused_does c.args.m.now io c.args.who c.args.pointer.addr c.args.pointer.prov c.args.size c.args.t.now
    c.in_default.ensures

pub returns-then-size-gt-MOST-clause-exact : goal.returns-then-size-gt-MOST-clause-exact
returns-then-size-gt-MOST-clause-exact c = λ io can has.
    null_does c.settle_start.new.m.rows c.args.m.now io c.args.who c.args.pointer.addr c.args.pointer.prov c.args.size c.in-Some.object c.in-Some.settles
    c.value.result c.args.t.now c.add_start.new.t (store_of c.settle_start.new.m io) c.in-Some.ensures c.if-size-gt-MOST.true
    (rows_rest c.settle_start.new.m c.args.m.now c.settle_start.ensures.rest) c.value.ensures c.requires.items c.in_ok-add_start.ensures
    (c.settle_start.ensures.store (can_settle_start c.args.m.now c.args.pointer.addr c.args.pointer.prov c.in-Some.object c.in-Some.settles c.in-Some.ensures
    has) io)

pub returns-then-size-gt-MOST-clause-known : goal.returns-then-size-gt-MOST-clause-known
returns-then-size-gt-MOST-clause-known c = λ known. but_known c.args.m.now c.settle_start.new.m c.settle_start.ensures.rest known

pub returns-in_err-check_created-clause-exact : goal.returns-in_err-check_created-clause-exact
returns-in_err-check_created-clause-exact c =
    let p = err_from_is_err_and c.from_residual-in_err-check_created.result c.from_residual-in_err-check_created.ensures.1 in
    rw (p.1, p.2) (λ io can has.
    limit_does c.args.m.now io c.args.who c.args.pointer.addr c.args.pointer.prov c.args.size c.in-Some.object c.in-Some.settles
    c.in_err-check_created.field-0.0 c.add_start.new.t c.in-Some.ensures c.requires.some c.if-size-gt-MOST.false c.in_err-check_created.ensures)

pub returns-in-Ok-clause-exact : goal.returns-in-Ok-clause-exact
returns-in-Ok-clause-exact c = λ io can has.
    let sum : ℕ = min (c.args.m.now.created + max c.args.size 16) (2 ^ 62) in
    done_does c.args.m.now c.move_to.new.m.rows io c.args.who c.args.pointer.addr c.args.pointer.prov c.args.size c.in-Some.object c.name_of.result
    c.in-Some.settles c.in-Ok.new c.value-in-Ok.result c.args.t.now c.add_start.new.t c.move_to.new.t (store_of c.move_to.new.m io)
    c.in-Some.ensures c.requires.some c.if-size-gt-MOST.false c.name_of.ensures
    (within_split (nat_lt (2 ^ 26) sum) (answers.Outside Created sum) c.in_ok-check_created.ensures) c.value-in-Ok.ensures
    (c.in-Ok.ensures.rows (made_value c.in-Ok.new)) (c.in-Ok.ensures.made io can.known) c.requires.items c.in_ok-add_start.ensures c.in-Ok.ensures.items
    (c.in-Ok.ensures.store io can (can_settle_start c.args.m.now c.args.pointer.addr c.args.pointer.prov c.in-Some.object c.in-Some.settles c.in-Some.ensures
    has))

pub returns-in-Err-clause-exact : goal.returns-in-Err-clause-exact
returns-in-Err-clause-exact c = λ io can has.
    let sum : ℕ = min (c.args.m.now.created + max c.args.size 16) (2 ^ 62) in
    failing_does c.args.m.now c.move_to.new.m.rows io c.args.who c.args.pointer.addr c.args.pointer.prov c.args.size c.in-Some.object c.name_of.result
    c.in-Some.settles c.in-Err.answer c.move_to.new.t (store_of c.move_to.new.m io)
    c.in-Some.ensures c.requires.some c.if-size-gt-MOST.false c.name_of.ensures
    (within_split (nat_lt (2 ^ 26) sum) (answers.Outside Created sum) c.in_ok-check_created.ensures)
    c.in-Err.ensures.rows (c.in-Err.ensures.made io can.known)

pub returns-in-Ok-clause-made : goal.returns-in-Ok-clause-made
returns-in-Ok-clause-made c = λ known tagged.
    pointer_made c.move_to.new.m c.value-in-Ok.result c.in-Ok.new.addr c.in-Ok.new.prov c.value-in-Ok.ensures (c.in-Ok.ensures.whole known tagged)
