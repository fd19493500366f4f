use Rattle.std.proofs.Common.{◌∙◌, rules}
use Rattle.std.specs.Int.{w128}
use Rattle.std.proofs.lemmas.Int.{to_z-of_z}
use Rattle.c_types.specs.declared.library.LibFunc.TheVariants.{
  Malloc,
  Calloc,
  Realloc,
  Memcpy,
  Memmove,
  Memset,
  Memcmp,
  Strlen,
  Strcpy,
  Strcmp,
  Strchr,
  Getchar,
  Putchar,
  Puts,
  Exit,
  Abort,
}
use Rattle.mem_objects.specs.Memory.{store_of}
use Rattle.libc_arguments.specs.Seen.{values_seen}
use Rattle.libc_arguments.specs.Answers.{answer_in}
use Rattle.libc_arguments.proofs.Answering.{arm, malloc_called, calloc_called, realloc_called, first_size}
use Rattle.std.proofs.Common.{subst}
use Rattle.c_types.specs.declared.library.LibFunc.{LibFunc}
use Rattle.libc_arguments.specs.Answers.{IsCall}
use Rattle.libc_arguments.proofs.Keeping.{does_made}
use Rattle.libc_model.proofs.calls.value_of.Goals as goal

pub returns-in-Malloc-clause-exact : goal.returns-in-Malloc-clause-exact
returns-in-Malloc-clause-exact c =
    arm c.args.f Malloc c.allocate.new.m.rows (values_seen c.args.args.now) c.args.who c.args.m.now c.args.io.now
    (answer_in c.allocate.result) c.allocate.new.t (store_of c.allocate.new.m c.args.io.now) (store_of c.args.m.now c.args.io.now) c.in-Malloc.is
    (λ call. malloc_called c.allocate.new.m.rows (values_seen c.args.args.now) c.args.who c.size_at.result (store_of c.args.m.now c.args.io.now)
    (store_of c.allocate.new.m c.args.io.now) c.allocate.result c.allocate.new.t call.streams
    (c.size_at.ensures (first_size (values_seen c.args.args.now) call.sizes)) (c.allocate.ensures.exact c.args.io.now call.known))

pub returns-in-Calloc-clause-exact : goal.returns-in-Calloc-clause-exact
returns-in-Calloc-clause-exact c =
    arm c.args.f Calloc c.allocate_zeros.new.m.rows (values_seen c.args.args.now) c.args.who c.args.m.now c.args.io.now
    (answer_in c.allocate_zeros.result) c.allocate_zeros.new.t (store_of c.allocate_zeros.new.m c.args.io.now)
    (store_of c.args.m.now c.args.io.now) c.in-Calloc.is
    (λ call. calloc_called c.allocate_zeros.new.m.rows (values_seen c.args.args.now) c.args.who (store_of c.args.m.now c.args.io.now)
    (store_of c.allocate_zeros.new.m c.args.io.now) c.allocate_zeros.result c.allocate_zeros.new.t call.streams
    (c.allocate_zeros.ensures.exact c.args.io.now call.sizes call.known call.high))

pub returns-in-Strlen-clause-exact : goal.returns-in-Strlen-clause-exact
returns-in-Strlen-clause-exact c =
    arm c.args.f Strlen c.length.new.m.rows (values_seen c.args.args.now) c.args.who c.args.m.now c.args.io.now (answer_in c.length.result) c.length.new.t
    (store_of c.length.new.m c.args.io.now) (store_of c.args.m.now c.args.io.now) c.in-Strlen.is
    (c.length.ensures.exact c.args.io.now c.args.who)

pub returns-in-Strcmp-clause-exact : goal.returns-in-Strcmp-clause-exact
returns-in-Strcmp-clause-exact c =
    arm c.args.f Strcmp c.compare_strings.new.m.rows (values_seen c.args.args.now) c.args.who c.args.m.now c.args.io.now
    (answer_in c.compare_strings.result) c.compare_strings.new.t (store_of c.compare_strings.new.m c.args.io.now)
    (store_of c.args.m.now c.args.io.now) c.in-Strcmp.is
    (c.compare_strings.ensures.exact c.args.io.now c.args.who)

pub returns-in-Strchr-clause-exact : goal.returns-in-Strchr-clause-exact
returns-in-Strchr-clause-exact c =
    arm c.args.f Strchr c.find_byte.new.m.rows (values_seen c.args.args.now) c.args.who c.args.m.now c.args.io.now
    (answer_in c.find_byte.result) c.find_byte.new.t (store_of c.find_byte.new.m c.args.io.now) (store_of c.args.m.now c.args.io.now) c.in-Strchr.is
    (c.find_byte.ensures.exact c.args.io.now c.args.who)

pub returns-in-Getchar-clause-exact : goal.returns-in-Getchar-clause-exact
returns-in-Getchar-clause-exact c =
    arm c.args.f Getchar c.args.m.now.rows (values_seen c.args.args.now) c.args.who c.args.m.now c.args.io.now (answer_in c.getchar.result) c.getchar.new.t
    (store_of c.args.m.now c.getchar.new.io) (store_of c.args.m.now c.args.io.now) c.in-Getchar.is
    (λ call. c.getchar.ensures.exact c.args.m.now (values_seen c.args.args.now) c.args.who call.streams)

pub returns-in-Putchar-clause-exact : goal.returns-in-Putchar-clause-exact
returns-in-Putchar-clause-exact c =
    arm c.args.f Putchar c.args.m.now.rows (values_seen c.args.args.now) c.args.who c.args.m.now c.args.io.now (answer_in c.putchar.result) c.putchar.new.t
    (store_of c.args.m.now c.putchar.new.io) (store_of c.args.m.now c.args.io.now) c.in-Putchar.is
    (λ call. c.putchar.ensures.exact c.args.m.now (values_seen c.args.args.now) c.args.who (to_z-of_z w128 c.int_at.result (search rules) ∙ c.int_at.ensures)
    call.streams)

pub returns-in-Puts-clause-exact : goal.returns-in-Puts-clause-exact
returns-in-Puts-clause-exact c =
    arm c.args.f Puts c.puts.new.m.rows (values_seen c.args.args.now) c.args.who c.args.m.now c.args.io.now (answer_in c.puts.result) c.puts.new.t
    (store_of c.puts.new.m c.puts.new.io) (store_of c.args.m.now c.args.io.now) c.in-Puts.is
    (c.puts.ensures.exact c.args.who)

pub returns-in-Exit-clause-exact : goal.returns-in-Exit-clause-exact
returns-in-Exit-clause-exact c =
    arm c.args.f Exit c.args.m.now.rows (values_seen c.args.args.now) c.args.who c.args.m.now c.args.io.now (answer_in c.exit.result) c.exit.new.t
    (store_of c.args.m.now c.args.io.now) (store_of c.args.m.now c.args.io.now) c.in-Exit.is
    (λ call. c.exit.ensures.exact c.args.m.now c.args.io.now (values_seen c.args.args.now) c.args.who
    (to_z-of_z w128 c.int_at-in-Exit.result (search rules) ∙ c.int_at-in-Exit.ensures) call.streams)

pub returns-in-Abort-clause-exact : goal.returns-in-Abort-clause-exact
returns-in-Abort-clause-exact c =
    arm c.args.f Abort c.args.m.now.rows (values_seen c.args.args.now) c.args.who c.args.m.now c.args.io.now (answer_in c.abort.result) c.abort.new.t
    (store_of c.args.m.now c.args.io.now) (store_of c.args.m.now c.args.io.now) c.in-Abort.is
    (λ call. c.abort.ensures.exact c.args.m.now c.args.io.now (values_seen c.args.args.now) c.args.who call.streams)

pub returns-in-Memset-clause-exact : goal.returns-in-Memset-clause-exact
returns-in-Memset-clause-exact c =
    arm c.args.f Memset c.fill.new.m.rows (values_seen c.args.args.now) c.args.who c.args.m.now c.args.io.now (answer_in c.fill.result) c.fill.new.t
    (store_of c.fill.new.m c.args.io.now) (store_of c.args.m.now c.args.io.now) c.in-Memset.is
    (c.fill.ensures.exact c.args.io.now c.args.who)

pub returns-in-Memcmp-clause-exact : goal.returns-in-Memcmp-clause-exact
returns-in-Memcmp-clause-exact c =
    arm c.args.f Memcmp c.compare.new.m.rows (values_seen c.args.args.now) c.args.who c.args.m.now c.args.io.now (answer_in c.compare.result) c.compare.new.t
    (store_of c.compare.new.m c.args.io.now) (store_of c.args.m.now c.args.io.now) c.in-Memcmp.is
    (c.compare.ensures.exact c.args.io.now c.args.who)

pub returns-in-Strcpy-clause-exact : goal.returns-in-Strcpy-clause-exact
returns-in-Strcpy-clause-exact c =
    arm c.args.f Strcpy c.copy_string.new.m.rows (values_seen c.args.args.now) c.args.who c.args.m.now c.args.io.now
    (answer_in c.copy_string.result) c.copy_string.new.t (store_of c.copy_string.new.m c.args.io.now) (store_of c.args.m.now c.args.io.now) c.in-Strcpy.is
    (c.copy_string.ensures.exact c.args.io.now c.args.who)

pub returns-in-Memcpy-clause-exact : goal.returns-in-Memcpy-clause-exact
returns-in-Memcpy-clause-exact c =
    arm c.args.f Memcpy c.copy.new.m.rows (values_seen c.args.args.now) c.args.who c.args.m.now c.args.io.now (answer_in c.copy.result) c.copy.new.t
    (store_of c.copy.new.m c.args.io.now) (store_of c.args.m.now c.args.io.now) c.in-Memcpy.is
    (c.copy.ensures.exact c.args.io.now c.args.who)

pub returns-in-Memmove-clause-exact : goal.returns-in-Memmove-clause-exact
returns-in-Memmove-clause-exact c =
    arm c.args.f Memmove c.copy-in-Memmove.new.m.rows (values_seen c.args.args.now) c.args.who c.args.m.now c.args.io.now
    (answer_in c.copy-in-Memmove.result) c.copy-in-Memmove.new.t (store_of c.copy-in-Memmove.new.m c.args.io.now)
    (store_of c.args.m.now c.args.io.now) c.in-Memmove.is
    (c.copy-in-Memmove.ensures.exact c.args.io.now c.args.who)

pub returns-in-Realloc-clause-exact : goal.returns-in-Realloc-clause-exact
returns-in-Realloc-clause-exact c =
    arm c.args.f Realloc c.reallocate.new.m.rows (values_seen c.args.args.now) c.args.who c.args.m.now c.args.io.now
    (answer_in c.reallocate.result) c.reallocate.new.t (store_of c.reallocate.new.m c.args.io.now) (store_of c.args.m.now c.args.io.now) c.in-Realloc.is
    (λ call. realloc_called c.reallocate.new.m.rows (values_seen c.args.args.now) c.args.who (store_of c.args.m.now c.args.io.now)
    (store_of c.reallocate.new.m c.args.io.now) c.reallocate.result c.reallocate.new.t call.streams (c.reallocate.ensures.exact c.args.io.now call))

pub returns-in-Malloc-clause-made : goal.returns-in-Malloc-clause-made
returns-in-Malloc-clause-made c = λ is call.
    does_made c.allocate.new.m c.allocate.result c.allocate.new.t (store_of c.allocate.new.m c.args.io.now) _
    (c.allocate.ensures.exact c.args.io.now call.known)
    c.allocate.ensures.made

pub returns-in-Calloc-clause-made : goal.returns-in-Calloc-clause-made
returns-in-Calloc-clause-made c = λ is call.
    let here = subst (λ (k : LibFunc). IsCall k (values_seen c.args.args.now) c.args.m.now c.args.io.now) c.in-Calloc.is call in
    does_made c.allocate_zeros.new.m c.allocate_zeros.result c.allocate_zeros.new.t (store_of c.allocate_zeros.new.m c.args.io.now) _
    (c.allocate_zeros.ensures.exact c.args.io.now here.sizes here.known here.high) c.allocate_zeros.ensures.made

pub returns-in-Realloc-clause-made : goal.returns-in-Realloc-clause-made
returns-in-Realloc-clause-made c = λ is call.
    let here = subst (λ (k : LibFunc). IsCall k (values_seen c.args.args.now) c.args.m.now c.args.io.now) c.in-Realloc.is call in
    does_made c.reallocate.new.m c.reallocate.result c.reallocate.new.t (store_of c.reallocate.new.m c.args.io.now) _
    (c.reallocate.ensures.exact c.args.io.now here) (c.reallocate.ensures.made here.known here.tags.0)
