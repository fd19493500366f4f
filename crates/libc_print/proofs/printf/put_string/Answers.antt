use Rattle.std.proofs.Common.{false, ℕ, List, Ok, Err, Vec, Global, subst}
use Rattle.std.proofs.lemmas.Result.{err_from_is_err_and}
use Rattle.mem_spec.specs.Script.{◌>>=◌}
use Rattle.libc_spec.specs.Print.{next_pointer, string_bytes, field, bare, spaced, one}
use Rattle.libc_arguments.specs.Seen.{pointer_seen}
use Rattle.libc_print.specs.Seen.{left}
use Rattle.libc_directives.specs.Seen.{flags_seen, width_seen}
use Rattle.libc_directives.specs.Answers.{PutsBytes, answer_of}
use Rattle.libc_print.specs.Runs.{directive_bytes}
use Rattle.libc_print.proofs.Running.{adds_refused, adds_taken, adds_fails, adds_behind, field_adds}
use Rattle.libc_print.proofs.printf.put_string.Goals as goal

pub returns-in_err-pointer-clause-exact : goal.returns-in_err-pointer-clause-exact
returns-in_err-pointer-clause-exact c =
    let p = err_from_is_err_and c.from_residual.result c.from_residual.ensures.1 in
    rw (p.1, p.2) (λ io cells.
    adds_refused (directive_bytes (left c.take_pointer.new.args)) c.in_err-pointer.field-0.0 c.args.m.now io c.args.t.now c.args.t.now c.args.out.now.items
    c.args.out.now.items (next_pointer false (left c.args.args.now))
    (λ v. string_bytes c.args.m.now.rows v.item c.args.precision >>=
    (λ body. field (bare body) (spaced (flags_seen c.args.directive.flags) (width_seen c.args.width)) >>= (λ bytes. one bytes v.rest)))
    c.in_err-pointer.ensures.exact)

pub returns-in_err-text-clause-exact : goal.returns-in_err-text-clause-exact
returns-in_err-text-clause-exact c =
    let p = err_from_is_err_and c.from_residual-in_err-text.result c.from_residual-in_err-text.ensures.1 in
    rw (p.1, p.2) (λ io cells.
    adds_taken (directive_bytes (left c.take_pointer.new.args)) (Err c.in_err-text.field-0.0) c.args.m.now io c.args.t.now c.string_of.new.t
    c.args.out.now.items c.args.out.now.items
    (record { item = pointer_seen c.in_ok-pointer.pointer; rest = left c.take_pointer.new.args }) (next_pointer false (left c.args.args.now))
    (λ v. string_bytes c.args.m.now.rows v.item c.args.precision >>=
    (λ body. field (bare body) (spaced (flags_seen c.args.directive.flags) (width_seen c.args.width)) >>= (λ bytes. one bytes v.rest)))
    c.in_ok-pointer.ensures.exact
    (adds_fails (directive_bytes (left c.take_pointer.new.args)) (λ (v : Vec ℕ Global). v.items) c.in_err-text.field-0.0 c.args.m.now io c.args.t.now
    c.string_of.new.t c.string_of.new.t c.args.out.now.items c.args.out.now.items
    (string_bytes c.args.m.now.rows (pointer_seen c.in_ok-pointer.pointer) c.args.precision)
    (λ body. field (bare body) (spaced (flags_seen c.args.directive.flags) (width_seen c.args.width)) >>= (λ bytes. one bytes (left c.take_pointer.new.args)))
    (c.in_err-text.ensures io (c.in_ok-pointer.ensures.cell c.args.m.now cells))))

pub returns-in_err-put_text-clause-exact : goal.returns-in_err-put_text-clause-exact
returns-in_err-put_text-clause-exact c =
    let p = err_from_is_err_and c.from_residual-in_err-put_text.result c.from_residual-in_err-put_text.ensures.1 in
    rw (p.1, p.2) (λ io cells.
    adds_taken (directive_bytes (left c.take_pointer.new.args)) (Err (answer_of c.in_err-put_text.field-0.0)) c.args.m.now io c.args.t.now c.string_of.new.t
    c.args.out.now.items c.put_text.new.out.items
    (record { item = pointer_seen c.in_ok-pointer.pointer; rest = left c.take_pointer.new.args }) (next_pointer false (left c.args.args.now))
    (λ v. string_bytes c.args.m.now.rows v.item c.args.precision >>=
    (λ body. field (bare body) (spaced (flags_seen c.args.directive.flags) (width_seen c.args.width)) >>= (λ bytes. one bytes v.rest)))
    c.in_ok-pointer.ensures.exact
    (adds_behind (directive_bytes (left c.take_pointer.new.args)) (Err (answer_of c.in_err-put_text.field-0.0)) c.args.m.now io c.args.t.now c.string_of.new.t
    c.string_of.new.t c.args.out.now.items c.put_text.new.out.items
    (string_bytes c.args.m.now.rows (pointer_seen c.in_ok-pointer.pointer) c.args.precision) c.in_ok-text.text.items
    (λ body. field (bare body) (spaced (flags_seen c.args.directive.flags) (width_seen c.args.width)) >>= (λ bytes. one bytes (left c.take_pointer.new.args)))
    (c.in_ok-text.ensures io (c.in_ok-pointer.ensures.cell c.args.m.now cells))
    (field_adds (Err c.in_err-put_text.field-0.0) c.args.m.now io c.string_of.new.t c.args.out.now.items c.put_text.new.out.items
    (left c.take_pointer.new.args) (field (bare c.in_ok-text.text.items) (spaced (flags_seen c.args.directive.flags) (width_seen c.args.width)))
    (subst (λ (l : List ℕ). PutsBytes (Err c.in_err-put_text.field-0.0) c.args.out.now.items c.put_text.new.out.items
    (field (bare l) (spaced (flags_seen c.args.directive.flags) (width_seen c.args.width)))) c.as_slice.ensures.value c.in_err-put_text.ensures))))

pub returns-clause-exact : goal.returns-clause-exact
returns-clause-exact c = λ io cells.
    adds_taken (directive_bytes (left c.take_pointer.new.args)) (Ok tt) c.args.m.now io c.args.t.now c.string_of.new.t c.args.out.now.items
    c.put_text.new.out.items
    (record { item = pointer_seen c.in_ok-pointer.pointer; rest = left c.take_pointer.new.args }) (next_pointer false (left c.args.args.now))
    (λ v. string_bytes c.args.m.now.rows v.item c.args.precision >>=
    (λ body. field (bare body) (spaced (flags_seen c.args.directive.flags) (width_seen c.args.width)) >>= (λ bytes. one bytes v.rest)))
    c.in_ok-pointer.ensures.exact
    (adds_behind (directive_bytes (left c.take_pointer.new.args)) (Ok tt) c.args.m.now io c.args.t.now c.string_of.new.t c.string_of.new.t
    c.args.out.now.items c.put_text.new.out.items
    (string_bytes c.args.m.now.rows (pointer_seen c.in_ok-pointer.pointer) c.args.precision) c.in_ok-text.text.items
    (λ body. field (bare body) (spaced (flags_seen c.args.directive.flags) (width_seen c.args.width)) >>= (λ bytes. one bytes (left c.take_pointer.new.args)))
    (c.in_ok-text.ensures io (c.in_ok-pointer.ensures.cell c.args.m.now cells))
    (field_adds (Ok tt) c.args.m.now io c.string_of.new.t c.args.out.now.items c.put_text.new.out.items (left c.take_pointer.new.args)
    (field (bare c.in_ok-text.text.items) (spaced (flags_seen c.args.directive.flags) (width_seen c.args.width)))
    (subst (λ (l : List ℕ). PutsBytes (Ok tt) c.args.out.now.items c.put_text.new.out.items
    (field (bare l) (spaced (flags_seen c.args.directive.flags) (width_seen c.args.width)))) c.as_slice.ensures.value c.in_ok-put_text.ensures)))
