use Rattle.std.proofs.Common.{◌≡◌, ℕ, ◌+◌, Vec, Global, arith}
use Rattle.std.proofs.lemmas.Result.{err_from_is_err_and}
use Rattle.libc_arguments.specs.Parts.{byte_at}
use Rattle.libc_arguments.proofs.Reading.{rest_goes_on, rest_fails}
use Rattle.libc_arguments.proofs.bytes.numbers.Goals as goal

pub returns-in_err-number : goal.returns-in_err-number
returns-in_err-number c =
    let p = err_from_is_err_and c.from_residual.result c.from_residual.ensures.1 in
    rw (p.1, p.2) (λ short.
    let place : c.saturating_add.result ≡ c.args.range.from + c.loop-offset.offset = omega arith in
    rest_fails (λ (v : Vec ℕ Global). v.items) c.in_err-number.field-0.0 (byte_at c.args.m.now c.args.range.object) c.args.range.from c.args.range.len
    c.loop-offset.offset c.saturating_add.result c.loop-offset.numbers.items c.args.t.now c.loop-offset.t c.read_byte.new.t c.read_byte.new.t
    c.loop-offset-test.true place c.in_err-number.ensures (c.loop-offset.invariant short))

pub loop-offset-preserved : goal.loop-offset-preserved
loop-offset-preserved c = λ short.
    let place : c.saturating_add.result ≡ c.args.range.from + c.loop-offset.offset = omega arith in
    rest_goes_on (byte_at c.args.m.now c.args.range.object) c.args.range.from c.args.range.len c.loop-offset.offset c.saturating_add.result
    c.in_ok-number.number c.loop-offset.numbers.items c.push_number.new.numbers.items c.args.t.now c.loop-offset.t c.read_byte.new.t c.loop-offset-test.true
    place c.in_ok-number.ensures c.in_ok-push_number.ensures (c.loop-offset.invariant short)
