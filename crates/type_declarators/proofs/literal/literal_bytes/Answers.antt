use Rattle.std.proofs.Common.{◌≡◌, ◌+◌, arith}
use Rattle.type_declarators.specs.Literals.{bytes_from}
use Rattle.type_declarators.proofs.Bytes.{begins, one_more, broken, all_read}
use Rattle.type_declarators.proofs.literal.literal_bytes.Goals as goal

pub loop-k-init : goal.loop-k-init
loop-k-init c small = begins c.args.source.now c.args.first c.args.count c.in_ok-bytes.bytes c.in_ok-bytes.ensures

pub loop-k-preserved : goal.loop-k-preserved
loop-k-preserved c small =
    let here : c.saturating_add-at.result ≡ c.args.first + c.loop-k.k = omega (arith, c.saturating_add-at.ensures, c.loop-k-test.true, small) in
    one_more c.args.source.now c.args.first c.args.count c.loop-k.k c.saturating_add-at.result c.loop-k.bytes c.string_bytes.new.out
    c.spelling.result.now (bytes_from c.args.source.now c.args.count c.args.first) c.loop-k-test.true here c.spelling.ensures c.in-Ok.ensures.ok
    (c.loop-k.invariant small)

pub returns-in-Err-clause-value : goal.returns-in-Err-clause-value
returns-in-Err-clause-value c small other =
    let here : c.saturating_add-at.result ≡ c.args.first + c.loop-k.k = omega (arith, c.saturating_add-at.ensures, c.loop-k-test.true, small) in
    broken c.args.source.now c.args.first c.args.count c.loop-k.k c.saturating_add-at.result c.loop-k.bytes
    c.spelling.result.now (bytes_from c.args.source.now c.args.count c.args.first) c.in-Err.fault c.loop-k-test.true here c.spelling.ensures
    (c.in-Err.ensures.fault (λ want. other (c.literal_fault.ensures want))) (c.loop-k.invariant small)

pub returns-clause-value : goal.returns-clause-value
returns-clause-value c small =
    all_read c.args.source.now c.args.first c.args.count c.loop-k.k c.loop-k.bytes c.push.new.self (bytes_from c.args.source.now c.args.count c.args.first)
    (omega (arith, c.loop-k-test.false)) c.in_ok-push.ensures.ok (c.loop-k.invariant small)
