use Rattle.std.specs.Prelude.{Err}
use Rattle.std.proofs.Common.{false, ℕ, List, [], Vec, Global, sym, subst}
use Rattle.std.proofs.lemmas.Result.{err_from_is_err_and}
use Rattle.ub_base.specs.declared.names.Item.{Item}
use Rattle.mem_objects.specs.Memory.{store_of}
use Rattle.libc_arguments.specs.Seen.{values_seen}
use Rattle.libc_arguments.specs.Answers.{answer_in}
use Rattle.libc_arguments.specs.Parts.{Gives, Follows, line_at}
use Rattle.libc_arguments.proofs.Finishing.{cell_of}
use Rattle.libc_arguments.proofs.Printing.{puts_called, puts_fails}
use Rattle.libc_model.proofs.calls.puts.Goals as goal

pub returns-in_err-line-clause-exact : goal.returns-in_err-line-clause-exact
returns-in_err-line-clause-exact c =
    let p = err_from_is_err_and c.from_residual.result c.from_residual.ensures.1 in
    rw (p.1, p.2) (λ who call.
    puts_called c.args.m.now.rows (values_seen c.args.args.now) who c.pointer_at.result.addr c.pointer_at.result.prov (store_of c.args.m.now c.args.io.now)
    (store_of c.args.m.now c.args.io.now) c.line_of.new.t c.in_err-line.field-0.0 c.pointer_at.ensures
    (puts_fails (λ (v : Vec ℕ Global). v.items) c.args.m.now c.args.io.now c.line_of.new.t c.pointer_at.result.addr c.pointer_at.result.prov
    c.in_err-line.field-0.0
    (subst (λ (is : List Item). Follows false (λ (v : Vec ℕ Global). v.items) (Err c.in_err-line.field-0.0) c.args.m.now c.args.io.now is c.line_of.new.t
    (line_at c.args.m.now.rows c.pointer_at.result.addr c.pointer_at.result.prov)) c.requires
    (c.in_err-line.ensures c.args.io.now (cell_of c.args.m.now (values_seen c.args.args.now) 0 c.pointer_at.result.addr c.pointer_at.result.prov call.cells
    c.pointer_at.ensures)))))

pub returns-clause-exact : goal.returns-clause-exact
returns-clause-exact c = λ who call.
    puts_called c.print.new.m.rows (values_seen c.args.args.now) who c.pointer_at.result.addr c.pointer_at.result.prov (store_of c.args.m.now c.args.io.now)
    (store_of c.print.new.m c.print.new.io) c.print.new.t (answer_in c.print.result) c.pointer_at.ensures
    (c.print.ensures.exact (λ rows. line_at rows c.pointer_at.result.addr c.pointer_at.result.prov) call.streams
    (subst (λ (ns : List ℕ). Gives false (List ℕ) c.args.m.now c.args.io.now [] c.line_of.new.t
    (line_at c.args.m.now.rows c.pointer_at.result.addr c.pointer_at.result.prov) ns) (sym c.as_slice.ensures.value)
    (subst (λ (is : List Item). Gives false (List ℕ) c.args.m.now c.args.io.now is c.line_of.new.t
    (line_at c.args.m.now.rows c.pointer_at.result.addr c.pointer_at.result.prov) c.in_ok-line.line.items) c.requires
    (c.in_ok-line.ensures c.args.io.now (cell_of c.args.m.now (values_seen c.args.args.now) 0 c.pointer_at.result.addr c.pointer_at.result.prov call.cells
    c.pointer_at.ensures)))))
