use Rattle.std.proofs.Common.{ℕ, ◌+◌, ◌^◌, min, max, length}
use Rattle.std.specs.Prelude.{nat_lt}
use Rattle.std.proofs.lemmas.Result.{err_from_is_err_and}
use Rattle.ub_base.specs.declared.clause.Cause.TheVariants.{Created}
use Rattle.mem_objects.specs.declared.answer.LibAnswer.TheVariants as answers
use Rattle.mem_objects.specs.Memory.{store_of}
use Rattle.libc_spec.specs.Library.{is_given}
use Rattle.libc_heap.proofs.Allocating.{given_some, within_split}
use Rattle.libc_heap.proofs.Making.{calloc_done, calloc_failed, made_value, zeros_in}
use Rattle.std.proofs.Common.{replicate}
use Rattle.mem_objects.specs.Keeps.{Keeps}
use Rattle.prov_memory.proofs.KeepLemmas.{keeps_then}
use Rattle.libc_arguments.proofs.Keeping.{plain_kept, pointer_made}
use Rattle.libc_heap.proofs.heap.zeroed.Goals as goal

pub returns-in_err-new-clause-exact : goal.returns-in_err-new-clause-exact
returns-in_err-new-clause-exact c =
    let p = err_from_is_err_and c.from_residual-in_err-new.result c.from_residual-in_err-new.ensures.1 in
    rw (p.1, p.2) (λ io known above.
    let given = given_some (is_given c.args.size) c.args.size c.in-Some.size c.in-Some.ensures in
    let sum : ℕ = min (c.args.m.now.created + max c.in-Some.size 16) (2 ^ 62) in
    calloc_failed c.args.m.now c.created.new.m c.args.who c.args.size c.in-Some.size c.name_of-name.result c.in_err-new.field-0.0 c.created.new.t
    c.add_zeroed.new.t (store_of c.created.new.m io) io
    given.1 c.name_of-name.ensures given.0 (within_split (nat_lt (2 ^ 26) sum) (answers.Outside Created sum) c.in_ok-check_created.ensures)
    (c.in_err-new.ensures.exact io known))

pub returns-clause-exact : goal.returns-clause-exact
returns-clause-exact c = λ io known above.
    let given = given_some (is_given c.args.size) c.args.size c.in-Some.size c.in-Some.ensures in
    let sum : ℕ = min (c.args.m.now.created + max c.in-Some.size 16) (2 ^ 62) in
    rw c.value-2.ensures (calloc_done c.args.m.now c.created.new.m c.fill.new.m c.args.who c.args.size c.in-Some.size c.name_of-name.result c.in_ok-new.new
    c.created.new.t c.args.t.now c.add_zeroed.new.t c.in_ok-zeros.zeros.cells io
    given.1 c.name_of-name.ensures given.0 (within_split (nat_lt (2 ^ 26) sum) (answers.Outside Created sum) c.in_ok-check_created.ensures)
    (c.in_ok-new.ensures.rows (made_value c.in_ok-new.new)) c.fill.ensures.rows above c.in_ok-zeros.ensures c.fill.ensures.exact c.requires.items
    c.in_ok-add_zeroed.ensures (c.in_ok-new.ensures.exact io known))

pub returns-clause-known : goal.returns-clause-known
returns-clause-known c = λ known.
    c.fill.ensures.known (c.in_ok-new.ensures.known known)
    (zeros_in (length c.created.new.m.origins) c.in-Some.size c.in_ok-zeros.zeros.cells c.in_ok-zeros.ensures)

pub returns-clause-kept : goal.returns-clause-kept
returns-clause-kept c =
    keeps_then c.args.m.now c.created.new.m c.fill.new.m c.created.ensures.keeps
    (plain_kept c.created.new.m c.fill.new.m c.in_ok-zeros.zeros.cells (replicate c.in-Some.size 0) c.in_ok-zeros.ensures (c.fill.ensures.kept tt))

pub returns-clause-made : goal.returns-clause-made
returns-clause-made c =
    let keeps : Keeps c.created.new.m c.fill.new.m =
    plain_kept c.created.new.m c.fill.new.m c.in_ok-zeros.zeros.cells (replicate c.in-Some.size 0) c.in_ok-zeros.ensures (c.fill.ensures.kept tt) in
    pointer_made c.fill.new.m c.value-2.result c.in_ok-new.new.addr c.in_ok-new.new.prov c.value-2.ensures
    (keeps.made c.in_ok-new.new.prov c.in_ok-new.ensures.whole)
