use Rattle.std.specs.Prelude.{Err}
use Rattle.std.proofs.Common.{false, ℕ, List, [], Vec, Global, drop, sym, subst}
use Rattle.std.proofs.lemmas.Result.{err_from_is_err_and}
use Rattle.ub_base.specs.declared.names.Item.{Item}
use Rattle.mem_objects.specs.Memory.{store_of}
use Rattle.libc_arguments.specs.Seen.{values_seen}
use Rattle.libc_arguments.specs.Answers.{answer_in}
use Rattle.libc_arguments.specs.Parts.{Gives}
use Rattle.libc_arguments.proofs.Finishing.{cell_of}
use Rattle.libc_print.specs.Seen.{typed}
use Rattle.libc_print.specs.Runs.{Prints, printed_text}
use Rattle.libc_print.proofs.Ending.{print_called, print_fails}
use Rattle.libc_print.proofs.printf.printed.Goals as goal

pub returns-in_err-text-clause-exact : goal.returns-in_err-text-clause-exact
returns-in_err-text-clause-exact c =
    let p = err_from_is_err_and c.from_residual.result c.from_residual.ensures.1 in
    rw (p.1, p.2) (λ within cells.
    print_called c.args.to c.args.m.now.rows (values_seen c.args.args.now) c.args.at (drop c.args.first (typed c.args.args.now c.args.types.now))
    c.pointer_at.result.addr
    c.pointer_at.result.prov (store_of c.args.m.now c.args.io.now) (store_of c.args.m.now c.args.io.now) c.printed_text.new.t c.in_err-text.field-0.0
    c.pointer_at.ensures
    (print_fails (λ (v : Vec ℕ Global). v.items) c.in_err-text.field-0.0 c.args.m.now c.args.io.now c.printed_text.new.t
    c.args.to (printed_text c.args.m.now.rows c.pointer_at.result.addr c.pointer_at.result.prov (drop c.args.first (typed c.args.args.now c.args.types.now)))
    (subst (λ (is : List Item). Prints (λ (v : Vec ℕ Global). v.items) (Err c.in_err-text.field-0.0) c.args.m.now c.args.io.now is c.printed_text.new.t
    (printed_text c.args.m.now.rows c.pointer_at.result.addr c.pointer_at.result.prov (drop c.args.first (typed c.args.args.now c.args.types.now)))) c.requires
    (c.in_err-text.ensures c.args.io.now (cell_of c.args.m.now (values_seen c.args.args.now) c.args.at c.pointer_at.result.addr c.pointer_at.result.prov cells
    c.pointer_at.ensures)
    cells))))

pub returns-clause-exact : goal.returns-clause-exact
returns-clause-exact c = λ within cells.
    print_called c.args.to c.put_out.new.m.rows (values_seen c.args.args.now) c.args.at (drop c.args.first (typed c.args.args.now c.args.types.now))
    c.pointer_at.result.addr c.pointer_at.result.prov (store_of c.args.m.now c.args.io.now) (store_of c.put_out.new.m c.put_out.new.io) c.put_out.new.t
    (answer_in c.put_out.result) c.pointer_at.ensures
    (c.put_out.ensures.exact
    (λ rows. printed_text rows c.pointer_at.result.addr c.pointer_at.result.prov (drop c.args.first (typed c.args.args.now c.args.types.now)))
    within
    (subst (λ (bs : List ℕ). Gives false (List ℕ) c.args.m.now c.args.io.now [] c.printed_text.new.t
    (printed_text c.args.m.now.rows c.pointer_at.result.addr c.pointer_at.result.prov (drop c.args.first (typed c.args.args.now c.args.types.now)))
    bs) (sym c.as_slice.ensures.value)
    (subst (λ (is : List Item). Gives false (List ℕ) c.args.m.now c.args.io.now is c.printed_text.new.t
    (printed_text c.args.m.now.rows c.pointer_at.result.addr c.pointer_at.result.prov (drop c.args.first (typed c.args.args.now c.args.types.now)))
    c.in_ok-text.text.items) c.requires
    (c.in_ok-text.ensures c.args.io.now (cell_of c.args.m.now (values_seen c.args.args.now) c.args.at c.pointer_at.result.addr c.pointer_at.result.prov cells
    c.pointer_at.ensures)
    cells))))
