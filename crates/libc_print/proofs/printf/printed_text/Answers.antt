use Rattle.std.proofs.Common.{◌≡◌, ◌∙◌, Vec, Global, ℕ, ◌-◌, drop, take, ap}
use Rattle.std.proofs.lemmas.Result.{err_from_is_err_and}
use Rattle.libc_spec.specs.Library.{without_zero}
use Rattle.libc_print.specs.Seen.{typed}
use Rattle.libc_print.proofs.Printing.{popped, no_format, no_numbers}
use Rattle.libc_print.proofs.Running.{format_runs}
use Rattle.libc_print.proofs.printf.printed_text.Goals as goal

pub returns-in_err-range : goal.returns-in_err-range
returns-in_err-range c =
    let p = err_from_is_err_and c.from_residual.result c.from_residual.ensures.1 in
    rw (p.1, p.2) (λ io cell cells. no_format (λ (v : Vec ℕ Global). v.items) c.in_err-range.field-0.0 c.args.m.now io c.args.t.now c.check_string.new.t
    c.check_string.new.t c.args.pointer.addr c.args.pointer.prov (drop c.args.first (typed c.args.args.now c.args.types.now))
    (c.in_err-range.ensures.follows io cell))

pub returns-in_err-format : goal.returns-in_err-format
returns-in_err-format c =
    let p = err_from_is_err_and c.from_residual-in_err-format.result c.from_residual-in_err-format.ensures.1 in
    rw (p.1, p.2) (λ io cell cells. no_numbers (λ (v : Vec ℕ Global). v.items) c.in_err-format.field-0.0 c.args.m.now io c.args.t.now c.check_string.new.t
    c.numbers.new.t c.numbers.new.t c.args.pointer.addr c.args.pointer.prov (drop c.args.first (typed c.args.args.now c.args.types.now)) c.in_ok-range.range
    (c.in_ok-range.ensures.follows io cell) (c.in_err-format.ensures c.in_ok-range.ensures.short))

pub returns : goal.returns
returns c =
    let f : c.as_slice.result.now ≡ without_zero c.in_ok-format.format.items =
    c.as_slice.ensures.value ∙ c.pop.ensures.rest ∙ ap (λ (n : ℕ). take (n - 1) c.in_ok-format.format.items) c.in_ok-format.format.ok.0 ∙ popped
    c.in_ok-format.format.items in
    λ io cell cells. format_runs (λ (v : Vec ℕ Global). v.items) c.text_of.result (λ (v : Vec ℕ Global). v.items) c.in_ok-format.format c.args.m.now io
    c.args.t.now c.check_string.new.t c.numbers.new.t c.text_of.new.t c.args.pointer.addr c.args.pointer.prov
    (drop c.args.first (typed c.args.args.now c.args.types.now)) c.in_ok-range.range c.as_slice.result.now
    (c.in_ok-range.ensures.follows io cell) (c.in_ok-format.ensures c.in_ok-range.ensures.short) f (c.text_of.ensures io cells)
