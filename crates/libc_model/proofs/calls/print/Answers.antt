use Rattle.std.proofs.Common.{◌+◌, ◌<◌, ◌^◌, length, arith}
use Rattle.std.proofs.lemmas.Result.{err_from_is_err_and}
use Rattle.mem_spec.specs.Streams.{total}
use Rattle.libc_arguments.proofs.Printing.{print_past, print_gives}
use Rattle.libc_model.proofs.calls.print.Goals as goal

pub returns-in_err-check_output-clause-exact : goal.returns-in_err-check_output-clause-exact
returns-in_err-check_output-clause-exact c =
    let p = err_from_is_err_and c.from_residual.result c.from_residual.ensures.1 in
    rw (p.1, p.2) (λ script within g.
    let past : total c.args.io.now.output + length c.args.bytes.now < 2 ^ 64 = omega (arith, within) in
    print_past c.args.m.now c.args.io.now c.args.t.now c.args.bytes.now script c.in_err-check_output.field-0.0 c.check_output.result g
    c.in_err-check_output.was (c.check_output.ensures.past past))

pub returns-clause-exact : goal.returns-clause-exact
returns-clause-exact c = λ script within g.
    print_gives c.args.m.now c.settle.new.m c.args.io.now c.put.new.self c.args.t.now c.add.new.self c.args.bytes.now script within
    c.in_ok-check_output.ensures.within g
    c.in_ok-add.ensures.ok c.in_ok-put.ensures.ok c.settle.ensures.rows c.settle.ensures.store
