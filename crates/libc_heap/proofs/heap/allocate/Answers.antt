use Rattle.std.proofs.Common.{◌≡◌, ◌∙◌, ℕ, ◌+◌, ◌^◌, min, max, true, subst, rules}
use Rattle.std.specs.Prelude.{nat_lt}
use Rattle.ub_base.specs.declared.clause.Cause.TheVariants.{Created}
use Rattle.mem_objects.specs.declared.answer.LibAnswer.TheVariants as answers
use Rattle.mem_objects.specs.Memory.{store_of}
use Rattle.libc_spec.specs.Library.{is_given}
use Rattle.libc_heap.proofs.Allocating.{given_some, within_split, malloc_done, malloc_failed}
use Rattle.libc_arguments.proofs.Keeping.{pointer_made}
use Rattle.libc_heap.proofs.heap.allocate.Goals as goal

pub returns-in-Ok-clause-exact : goal.returns-in-Ok-clause-exact
returns-in-Ok-clause-exact c = λ io known.
    let asked : c.from.result ≡ c.args.size = search rules in
    let given = given_some (is_given c.from.result) c.from.result c.in-Some.size c.in-Some.ensures in
    let sum : ℕ = min (c.args.m.now.created + max c.in-Some.size 16) (2 ^ 62) in
    rw c.value-in-Ok.ensures (malloc_done c.created.new.m.rows c.args.who c.args.size c.in-Some.size c.name_of.result
    (store_of c.args.m.now io) c.in-Ok.new c.created.new.t (store_of c.created.new.m io)
    (given.1 ∙ asked) c.name_of.ensures (subst (λ (n : ℕ). is_given n ≡ true) asked given.0)
    (within_split (nat_lt (2 ^ 26) sum) (answers.Outside Created sum) c.in_ok-check_created.ensures)
    (c.in-Ok.ensures.exact io known))

pub returns-in-Err-clause-exact : goal.returns-in-Err-clause-exact
returns-in-Err-clause-exact c = λ io known.
    let asked : c.from.result ≡ c.args.size = search rules in
    let given = given_some (is_given c.from.result) c.from.result c.in-Some.size c.in-Some.ensures in
    let sum : ℕ = min (c.args.m.now.created + max c.in-Some.size 16) (2 ^ 62) in
    malloc_failed c.created.new.m.rows c.args.who c.args.size c.in-Some.size c.name_of.result (store_of c.args.m.now io) c.in-Err.answer c.created.new.t
    (store_of c.created.new.m io)
    (given.1 ∙ asked) c.name_of.ensures (subst (λ (n : ℕ). is_given n ≡ true) asked given.0)
    (within_split (nat_lt (2 ^ 26) sum) (answers.Outside Created sum) c.in_ok-check_created.ensures)
    (c.in-Err.ensures.exact io known)

pub returns-in-Ok-clause-made : goal.returns-in-Ok-clause-made
returns-in-Ok-clause-made c =
    pointer_made c.created.new.m c.value-in-Ok.result c.in-Ok.new.addr c.in-Ok.new.prov c.value-in-Ok.ensures c.in-Ok.ensures.whole
