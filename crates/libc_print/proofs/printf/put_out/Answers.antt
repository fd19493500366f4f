use Rattle.std.proofs.Common.{◌∙◌, ◌≡◌, ◌+◌, ◌<◌, ◌^◌, ℤ, length, sym, subst, arith, rules, to_z, of_z}
use Rattle.std.specs.Int.{w128}
use Rattle.std.proofs.lemmas.Int.{to_z-of_z}
use Rattle.std.proofs.lemmas.Result.{err_from_is_err_and}
use Rattle.mem_objects.specs.declared.value.Value.TheVariants.{Int}
use Rattle.mem_objects.specs.declared.answer.LibAnswer.TheVariants as answers
use Rattle.mem_objects.specs.Memory.{store_of}
use Rattle.mem_spec.specs.Script.{run}
use Rattle.mem_spec.specs.Streams.{total}
use Rattle.libc_arguments.specs.Answers.{Answers}
use Rattle.libc_print.specs.Calls.{printing, limited}
use Rattle.libc_print.proofs.Ending.{print_past, print_gives}
use Rattle.libc_print.proofs.printf.put_out.Goals as goal

pub returns-in_err-check_output-clause-exact : goal.returns-in_err-check_output-clause-exact
returns-in_err-check_output-clause-exact c =
    let p = err_from_is_err_and c.from_residual.result c.from_residual.ensures.1 in
    rw (p.1, p.2) (λ script within g.
    let past : total c.args.io.now.output + length c.args.bytes.now < 2 ^ 64 = omega (arith, within) in
    print_past c.args.m.now c.args.io.now c.args.t.now c.args.bytes.now c.args.to script c.in_err-check_output.field-0.0 c.check_output.result g
    c.in_err-check_output.was (c.check_output.ensures.past past))

pub returns-clause-exact : goal.returns-clause-exact
returns-clause-exact c = λ script within g.
    let value : to_z w128 (of_z w128 c.from.result) ≡ c.from.result = to_z-of_z w128 c.from.result (search rules) in
    subst (λ (z : ℤ). Answers (answers.Value (Int z)) c.add.new.self (store_of c.settle.new.m c.put.new.self)
    (limited (run c.settle.new.m.rows (printing c.args.to (script c.settle.new.m.rows)) (store_of c.args.m.now c.args.io.now))))
    (sym (value ∙ c.from.ensures))
    (print_gives c.args.m.now c.settle.new.m c.args.io.now c.put.new.self c.args.t.now c.add.new.self c.args.bytes.now c.args.to script within
    c.in_ok-check_output.ensures.within g
    c.in_ok-add.ensures.ok c.in_ok-put.ensures.ok c.settle.ensures.rows c.settle.ensures.store)
