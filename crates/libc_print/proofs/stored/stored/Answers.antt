use Rattle.std.proofs.Common.{false, List, drop, subst}
use Rattle.std.specs.Prelude.{Err}
use Rattle.std.proofs.lemmas.Result.{err_from_is_err_and}
use Rattle.ub_base.specs.declared.names.Item.{Item}
use Rattle.mem_objects.specs.Memory.{store_of}
use Rattle.libc_spec.specs.Library.{pointer}
use Rattle.libc_spec.specs.Formatted as formatted
use Rattle.libc_spec.specs.Formatted.{placed}
use Rattle.libc_arguments.specs.Seen.{values_seen}
use Rattle.libc_arguments.specs.Answers.{answer_in}
use Rattle.libc_arguments.specs.Parts.{Gives}
use Rattle.libc_arguments.proofs.Finishing.{cell_of}
use Rattle.libc_print.specs.Seen.{typed}
use Rattle.libc_print.specs.Runs.{Prints}
use Rattle.libc_print.specs.Stored.{placed_seen}
use Rattle.libc_print.proofs.Storing.{store_fails, stored_called}
use Rattle.libc_print.proofs.stored.stored.Goals as goal

pub returns-in_err-placed-clause-exact : goal.returns-in_err-placed-clause-exact
returns-in_err-placed-clause-exact c =
    let p = err_from_is_err_and c.from_residual.result c.from_residual.ensures.1 in
    rw (p.1, p.2) (λ io within cells.
    stored_called c.args.m.now.rows (values_seen c.args.args.now) 0 c.args.at c.args.most (drop c.args.first (typed c.args.args.now c.args.types.now))
    c.pointer_at-to.result.addr c.pointer_at.result.addr c.pointer_at-to.result.prov c.pointer_at.result.prov (store_of c.args.m.now io)
    (store_of c.args.m.now io) c.place.new.t c.in_err-placed.field-0.0 c.pointer_at-to.ensures c.pointer_at.ensures
    (store_fails (placed_seen c.args.m.now) c.in_err-placed.field-0.0 c.args.m.now io c.place.new.t c.args.most
    (placed c.args.m.now.rows c.args.most (pointer c.pointer_at-to.result.addr c.pointer_at-to.result.prov)
    (pointer c.pointer_at.result.addr c.pointer_at.result.prov) (drop c.args.first (typed c.args.args.now c.args.types.now)))
    (subst (λ (is : List Item). Prints (placed_seen c.args.m.now) (Err c.in_err-placed.field-0.0) c.args.m.now io is c.place.new.t
    (placed c.args.m.now.rows c.args.most (pointer c.pointer_at-to.result.addr c.pointer_at-to.result.prov)
    (pointer c.pointer_at.result.addr c.pointer_at.result.prov) (drop c.args.first (typed c.args.args.now c.args.types.now)))) c.requires
    (c.in_err-placed.ensures.follows io
    (cell_of c.args.m.now (values_seen c.args.args.now) 0 c.pointer_at-to.result.addr c.pointer_at-to.result.prov cells c.pointer_at-to.ensures)
    (cell_of c.args.m.now (values_seen c.args.args.now) c.args.at c.pointer_at.result.addr c.pointer_at.result.prov cells c.pointer_at.ensures)
    cells))))

pub returns-clause-exact : goal.returns-clause-exact
returns-clause-exact c = λ io within cells.
    stored_called c.put_in.new.m.rows (values_seen c.args.args.now) 0 c.args.at c.args.most (drop c.args.first (typed c.args.args.now c.args.types.now))
    c.pointer_at-to.result.addr c.pointer_at.result.addr c.pointer_at-to.result.prov c.pointer_at.result.prov (store_of c.args.m.now io)
    (store_of c.put_in.new.m io) c.put_in.new.t (answer_in c.put_in.result) c.pointer_at-to.ensures c.pointer_at.ensures
    (c.put_in.ensures.exact
    (λ rows. placed rows c.args.most (pointer c.pointer_at-to.result.addr c.pointer_at-to.result.prov)
    (pointer c.pointer_at.result.addr c.pointer_at.result.prov) (drop c.args.first (typed c.args.args.now c.args.types.now))) io within
    (subst (λ (is : List Item). Gives false formatted.Placed c.args.m.now io is c.place.new.t
    (placed c.args.m.now.rows c.args.most (pointer c.pointer_at-to.result.addr c.pointer_at-to.result.prov)
    (pointer c.pointer_at.result.addr c.pointer_at.result.prov) (drop c.args.first (typed c.args.args.now c.args.types.now)))
    (placed_seen c.args.m.now c.in_ok-placed.placed)) c.requires
    (c.in_ok-placed.ensures.follows io
    (cell_of c.args.m.now (values_seen c.args.args.now) 0 c.pointer_at-to.result.addr c.pointer_at-to.result.prov cells c.pointer_at-to.ensures)
    (cell_of c.args.m.now (values_seen c.args.args.now) c.args.at c.pointer_at.result.addr c.pointer_at.result.prov cells c.pointer_at.ensures)
    cells)))
