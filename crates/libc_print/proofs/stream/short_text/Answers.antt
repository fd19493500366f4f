use Rattle.std.proofs.Common.{ℕ, Vec, Global, ◌≡◌, ◌^◌, length, drop, cond, ap, subst, Ok, Err}
use Rattle.std.specs.Prelude.{nat_lt}
use Rattle.std.proofs.lemmas.Result.{err_from_is_err_and}
use Rattle.libc_print.specs.Seen.{typed}
use Rattle.libc_print.specs.Runs.{printed_text}
use Rattle.libc_spec.specs.Formatted.{short}
use Rattle.ub_base.specs.declared.clause.Cause.TheVariants.{Output}
use Rattle.mem_objects.specs.declared.answer.LibAnswer.TheVariants as answers
use Rattle.libc_print.proofs.Storing.{prints_fails, too_long, short_enough}
use Rattle.libc_print.proofs.stream.short_text.Goals as goal

pub returns-in_err-text : goal.returns-in_err-text
returns-in_err-text c =
    let p = err_from_is_err_and c.from_residual.result c.from_residual.ensures.1 in
    rw (p.1, p.2) (λ io cell cells. prints_fails (λ (v : Vec ℕ Global). v.items) (λ (v : Vec ℕ Global). v.items) c.in_err-text.field-0.0 c.args.m.now io
    c.args.t.now c.printed_text.new.t c.printed_text.new.t
    (printed_text c.args.m.now.rows c.args.pointer.addr c.args.pointer.prov (drop c.args.first (typed c.args.args.now c.args.types.now))) short
    (c.in_err-text.ensures io cell cells))

pub returns-in_err-check_short : goal.returns-in_err-check_short
returns-in_err-check_short c =
    let p = err_from_is_err_and c.from_residual-in_err-check_short.result c.from_residual-in_err-check_short.ensures.1 in
    rw (p.1, p.2) (λ io cell cells. too_long (λ (v : Vec ℕ Global). v.items) c.args.m.now io c.args.t.now c.printed_text.new.t c.printed_text.new.t
    c.args.pointer.addr c.args.pointer.prov (drop c.args.first (typed c.args.args.now c.args.types.now)) c.in_ok-text.text.items
    c.in_err-check_short.field-0.0 c.check_short.result (c.in_ok-text.ensures io cell cells) c.in_err-check_short.was
    (subst (λ (n : ℕ). c.check_short.result ≡ cond (nat_lt (2 ^ 24) n) (Err (answers.Outside Output n)) (Ok tt))
    (ap length c.as_slice.ensures.value) c.check_short.ensures))

pub returns : goal.returns
returns c = λ io cell cells.
    short_enough c.args.m.now io c.args.t.now c.printed_text.new.t c.args.pointer.addr c.args.pointer.prov
    (drop c.args.first (typed c.args.args.now c.args.types.now)) c.in_ok-text.text.items c.check_short.result (c.in_ok-text.ensures io cell cells)
    c.in_ok-check_short.was
    (subst (λ (n : ℕ). c.check_short.result ≡ cond (nat_lt (2 ^ 24) n) (Err (answers.Outside Output n)) (Ok tt))
    (ap length c.as_slice.ensures.value) c.check_short.ensures)
