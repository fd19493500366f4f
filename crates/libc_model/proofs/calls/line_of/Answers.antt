use Rattle.std.proofs.Common.{false, ℕ, List, Vec, Global, sym, subst}
use Rattle.std.proofs.lemmas.Result.{err_from_is_err_and}
use Rattle.libc_arguments.specs.Parts.{Gives, line_at}
use Rattle.libc_arguments.proofs.Printing.{line_value}
use Rattle.libc_arguments.proofs.Finishing.{no_text, no_numbers, text_read}
use Rattle.libc_model.proofs.calls.line_of.Goals as goal

pub returns-in_err-range : goal.returns-in_err-range
returns-in_err-range c =
    let p = err_from_is_err_and c.from_residual.result c.from_residual.ensures.1 in
    rw (p.1, p.2) (λ io cell. no_text (λ (v : Vec ℕ Global). v.items) line_value c.args.m.now io c.args.t.now c.check_string.new.t c.check_string.new.t
    c.args.text.addr c.args.text.prov c.in_err-range.field-0.0 (c.in_err-range.ensures.follows io cell))

pub returns-in_err-line : goal.returns-in_err-line
returns-in_err-line c =
    let p = err_from_is_err_and c.from_residual-in_err-line.result c.from_residual-in_err-line.ensures.1 in
    rw (p.1, p.2) (λ io cell. no_numbers (λ (v : Vec ℕ Global). v.items) (λ (v : Vec ℕ Global). v.items) line_value c.args.m.now io c.args.t.now
    c.check_string.new.t c.numbers.new.t c.numbers.new.t c.args.text.addr c.args.text.prov c.in_ok-range.range c.in_err-line.field-0.0
    (c.in_ok-range.ensures.follows io cell) (c.in_err-line.ensures c.in_ok-range.ensures.short))

pub returns : goal.returns
returns c = λ io cell.
    subst (λ (ns : List ℕ). Gives false (List ℕ) c.args.m.now io c.args.t.now c.numbers.new.t (line_at c.args.m.now.rows c.args.text.addr c.args.text.prov)
    ns) (sym c.in_ok-end_line.ensures)
    (text_read (λ (v : Vec ℕ Global). v.items) c.in_ok-line.line line_value c.args.m.now io c.args.t.now c.check_string.new.t c.numbers.new.t c.args.text.addr
    c.args.text.prov c.in_ok-range.range (c.in_ok-range.ensures.follows io cell) (c.in_ok-line.ensures c.in_ok-range.ensures.short))
