use Rattle.std.proofs.Common.{false, ℕ, List, Vec, Global, None, sym, subst}
use Rattle.std.proofs.lemmas.Result.{err_from_is_err_and}
use Rattle.libc_spec.specs.Library.{pointer}
use Rattle.libc_spec.specs.Print.{string_bytes}
use Rattle.libc_arguments.specs.Parts.{Gives}
use Rattle.libc_arguments.proofs.Finishing.{no_text, no_numbers, text_read}
use Rattle.libc_print.proofs.Bounded.{before_value}
use Rattle.libc_print.proofs.strings.whole_string.Goals as goal

pub returns-in_err-range : goal.returns-in_err-range
returns-in_err-range c =
    let p = err_from_is_err_and c.from_residual.result c.from_residual.ensures.1 in
    rw (p.1, p.2) (λ io cell. no_text (λ (v : Vec ℕ Global). v.items) before_value c.args.m.now io c.args.t.now c.check_string.new.t c.check_string.new.t
    c.args.pointer.addr c.args.pointer.prov c.in_err-range.field-0.0 (c.in_err-range.ensures.follows io cell))

pub returns-in_err-text : goal.returns-in_err-text
returns-in_err-text c =
    let p = err_from_is_err_and c.from_residual-in_err-text.result c.from_residual-in_err-text.ensures.1 in
    rw (p.1, p.2) (λ io cell. no_numbers (λ (v : Vec ℕ Global). v.items) (λ (v : Vec ℕ Global). v.items) before_value c.args.m.now io c.args.t.now
    c.check_string.new.t c.numbers.new.t c.numbers.new.t c.args.pointer.addr c.args.pointer.prov c.in_ok-range.range c.in_err-text.field-0.0
    (c.in_ok-range.ensures.follows io cell) (c.in_err-text.ensures c.in_ok-range.ensures.short))

pub returns : goal.returns
returns c = λ io cell.
    subst (λ (ns : List ℕ). Gives false (List ℕ) c.args.m.now io c.args.t.now c.numbers.new.t
    (string_bytes c.args.m.now.rows (pointer c.args.pointer.addr c.args.pointer.prov) None) ns) (sym c.end_at_zero.ensures)
    (text_read (λ (v : Vec ℕ Global). v.items) c.in_ok-text.text before_value c.args.m.now io c.args.t.now c.check_string.new.t c.numbers.new.t
    c.args.pointer.addr c.args.pointer.prov c.in_ok-range.range (c.in_ok-range.ensures.follows io cell) (c.in_ok-text.ensures c.in_ok-range.ensures.short))
