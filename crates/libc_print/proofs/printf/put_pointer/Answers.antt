use Rattle.std.proofs.Common.{true, Ok, Err}
use Rattle.std.proofs.lemmas.Result.{err_from_is_err_and}
use Rattle.mem_spec.specs.Script.{◌>>=◌, ◌>>◌}
use Rattle.mem_spec.specs.Acts.{expose}
use Rattle.libc_spec.specs.Library.{address_in, prov_in}
use Rattle.libc_spec.specs.Print.{next_pointer, address_parts, field, spaced, one}
use Rattle.libc_arguments.specs.Seen.{pointer_seen}
use Rattle.libc_print.specs.Seen.{left}
use Rattle.libc_directives.specs.Seen.{flags_seen, width_seen}
use Rattle.libc_directives.specs.Answers.{answer_of}
use Rattle.libc_print.specs.Runs.{directive_bytes}
use Rattle.libc_print.proofs.Running.{adds_refused, adds_taken, adds_behind, field_adds, address_opened, loud, show_gives}
use Rattle.libc_print.proofs.printf.put_pointer.Goals as goal

pub returns-in_err-pointer-clause-exact : goal.returns-in_err-pointer-clause-exact
returns-in_err-pointer-clause-exact c =
    let p = err_from_is_err_and c.from_residual.result c.from_residual.ensures.1 in
    rw (p.1, p.2) (λ m io.
    adds_refused (directive_bytes (left c.take_pointer.new.args)) c.in_err-pointer.field-0.0 m io c.args.t.now c.args.t.now c.args.out.now.items
    c.args.out.now.items (next_pointer true (left c.args.args.now))
    (λ v. expose (prov_in v.item) >> (field (address_parts (address_in v.item)) (spaced (flags_seen c.args.directive.flags) (width_seen c.args.width)) >>=
    (λ bytes. one bytes v.rest)))
    c.in_err-pointer.ensures.exact)

pub returns-in_err-put_address-clause-exact : goal.returns-in_err-put_address-clause-exact
returns-in_err-put_address-clause-exact c =
    let p = err_from_is_err_and c.from_residual-in_err-put_address.result c.from_residual-in_err-put_address.ensures.1 in
    rw (p.1, p.2) (λ m io.
    adds_taken (directive_bytes (left c.take_pointer.new.args)) (Err (answer_of c.in_err-put_address.field-0.0)) m io c.args.t.now c.expose.new.t
    c.args.out.now.items c.put_address.new.out.items
    (record { item = pointer_seen c.in_ok-pointer.pointer; rest = left c.take_pointer.new.args }) (next_pointer true (left c.args.args.now))
    (λ v. expose (prov_in v.item) >> (field (address_parts (address_in v.item)) (spaced (flags_seen c.args.directive.flags) (width_seen c.args.width)) >>=
    (λ bytes. one bytes v.rest)))
    c.in_ok-pointer.ensures.exact
    (adds_behind (directive_bytes (left c.take_pointer.new.args)) (Err (answer_of c.in_err-put_address.field-0.0)) m io c.args.t.now c.expose.new.t
    c.expose.new.t c.args.out.now.items c.put_address.new.out.items
    (expose c.in_ok-pointer.pointer.prov) tt
    (λ u. field (address_parts c.in_ok-pointer.pointer.addr) (spaced (flags_seen c.args.directive.flags) (width_seen c.args.width)) >>=
    (λ bytes. one bytes (left c.take_pointer.new.args)))
    (loud (Unit {0}) m io c.args.t.now c.expose.new.t (expose c.in_ok-pointer.pointer.prov) tt
    (show_gives m io c.args.t.now c.expose.new.t c.in_ok-pointer.pointer.prov c.in_ok-expose.ensures))
    (field_adds (Err c.in_err-put_address.field-0.0) m io c.expose.new.t c.args.out.now.items c.put_address.new.out.items (left c.take_pointer.new.args)
    (field (address_parts c.in_ok-pointer.pointer.addr) (spaced (flags_seen c.args.directive.flags) (width_seen c.args.width)))
    (address_opened (Err c.in_err-put_address.field-0.0) c.args.out.now.items c.put_address.new.out.items c.in_ok-pointer.pointer.addr
    (spaced (flags_seen c.args.directive.flags) (width_seen c.args.width)) c.in_err-put_address.ensures))))

pub returns-clause-exact : goal.returns-clause-exact
returns-clause-exact c = λ m io.
    adds_taken (directive_bytes (left c.take_pointer.new.args)) (Ok tt) m io c.args.t.now c.expose.new.t c.args.out.now.items c.put_address.new.out.items
    (record { item = pointer_seen c.in_ok-pointer.pointer; rest = left c.take_pointer.new.args }) (next_pointer true (left c.args.args.now))
    (λ v. expose (prov_in v.item) >> (field (address_parts (address_in v.item)) (spaced (flags_seen c.args.directive.flags) (width_seen c.args.width)) >>=
    (λ bytes. one bytes v.rest)))
    c.in_ok-pointer.ensures.exact
    (adds_behind (directive_bytes (left c.take_pointer.new.args)) (Ok tt) m io c.args.t.now c.expose.new.t c.expose.new.t c.args.out.now.items
    c.put_address.new.out.items
    (expose c.in_ok-pointer.pointer.prov) tt
    (λ u. field (address_parts c.in_ok-pointer.pointer.addr) (spaced (flags_seen c.args.directive.flags) (width_seen c.args.width)) >>=
    (λ bytes. one bytes (left c.take_pointer.new.args)))
    (loud (Unit {0}) m io c.args.t.now c.expose.new.t (expose c.in_ok-pointer.pointer.prov) tt
    (show_gives m io c.args.t.now c.expose.new.t c.in_ok-pointer.pointer.prov c.in_ok-expose.ensures))
    (field_adds (Ok tt) m io c.expose.new.t c.args.out.now.items c.put_address.new.out.items (left c.take_pointer.new.args)
    (field (address_parts c.in_ok-pointer.pointer.addr) (spaced (flags_seen c.args.directive.flags) (width_seen c.args.width)))
    (address_opened (Ok tt) c.args.out.now.items c.put_address.new.out.items c.in_ok-pointer.pointer.addr
    (spaced (flags_seen c.args.directive.flags) (width_seen c.args.width)) c.in_ok-put_address.ensures)))
