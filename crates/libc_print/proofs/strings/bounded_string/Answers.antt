use Rattle.std.specs.Prelude.{IfSome}
use Rattle.std.proofs.Common.{false, ℕ, List, Vec, Global, Option, Some, sym, subst}
use Rattle.std.proofs.lemmas.Result.{err_from_is_err_and}
use Rattle.mem_spec.specs.Store.{TaggedByte}
use Rattle.libc_spec.specs.Library.{pointer}
use Rattle.libc_spec.specs.Print.{string_bytes}
use Rattle.libc_arguments.specs.declared.arguments.Range.{Range}
use Rattle.libc_arguments.specs.Parts.{Gives, IsShort, bytes_if}
use Rattle.libc_print.specs.Strings.{bounded_text}
use Rattle.libc_print.proofs.Bounded.{string_fails, string_open, string_unread, string_read}
use Rattle.libc_print.proofs.strings.bounded_string.Goals as goal

pub returns-in_err-range : goal.returns-in_err-range
returns-in_err-range c =
    let p = err_from_is_err_and c.from_residual.result c.from_residual.ensures.1 in
    rw (p.1, p.2) (λ io cell. string_fails (λ (v : Vec ℕ Global). v.items) c.in_err-range.field-0.0 c.args.m.now io c.args.t.now c.bounded_range.new.t
    c.bounded_range.new.t c.args.most c.args.pointer.addr c.args.pointer.prov (c.in_err-range.ensures.follows io cell))

pub returns-in_default : goal.returns-in_default
returns-in_default c = λ io cell.
    subst (λ (ns : List ℕ). Gives false (List ℕ) c.args.m.now io c.args.t.now c.bounded_range.new.t
    (string_bytes c.args.m.now.rows (pointer c.args.pointer.addr c.args.pointer.prov) (Some c.args.most)) ns) (sym c.new.ensures.items)
    (string_open c.args.m.now io c.args.t.now c.bounded_range.new.t c.args.most c.args.pointer.addr c.args.pointer.prov
    (subst (λ (o : Option Range). Gives false (List TaggedByte) c.args.m.now io c.args.t.now c.bounded_range.new.t
    (bounded_text c.args.m.now.rows c.args.most c.args.pointer.addr c.args.pointer.prov) (bytes_if c.args.m.now o)) c.in_default.is
    (c.in_ok-range.ensures.follows io cell)))

pub returns-in_err-text : goal.returns-in_err-text
returns-in_err-text c =
    let p = err_from_is_err_and c.from_residual-in_err-text.result c.from_residual-in_err-text.ensures.1 in
    let short : IsShort c.in-Some.range = subst (λ (o : Option Range). IfSome o IsShort) c.in-Some.is c.in_ok-range.ensures.short in
    rw (p.1, p.2) (λ io cell. string_unread (λ (v : Vec ℕ Global). v.items) (λ (v : Vec ℕ Global). v.items) c.in_err-text.field-0.0 c.args.m.now io
    c.args.t.now c.bounded_range.new.t c.numbers.new.t c.numbers.new.t c.args.most c.args.pointer.addr c.args.pointer.prov c.in-Some.range
    (subst (λ (o : Option Range). Gives false (List TaggedByte) c.args.m.now io c.args.t.now c.bounded_range.new.t
    (bounded_text c.args.m.now.rows c.args.most c.args.pointer.addr c.args.pointer.prov) (bytes_if c.args.m.now o)) c.in-Some.is
    (c.in_ok-range.ensures.follows io cell))
    (c.in_err-text.ensures short))

pub returns : goal.returns
returns c = λ io cell.
    let short : IsShort c.in-Some.range = subst (λ (o : Option Range). IfSome o IsShort) c.in-Some.is c.in_ok-range.ensures.short in
    string_read (λ (v : Vec ℕ Global). v.items) c.in_ok-text.text c.args.m.now io c.args.t.now c.bounded_range.new.t c.numbers.new.t c.args.most
    c.args.pointer.addr c.args.pointer.prov c.in-Some.range c.end_at_zero.new.bytes.items
    (subst (λ (o : Option Range). Gives false (List TaggedByte) c.args.m.now io c.args.t.now c.bounded_range.new.t
    (bounded_text c.args.m.now.rows c.args.most c.args.pointer.addr c.args.pointer.prov) (bytes_if c.args.m.now o)) c.in-Some.is
    (c.in_ok-range.ensures.follows io cell))
    (c.in_ok-text.ensures short) c.end_at_zero.ensures
