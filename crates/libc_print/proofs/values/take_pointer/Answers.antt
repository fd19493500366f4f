use Rattle.libc_arguments.specs.Seen.{values_seen}
use Rattle.libc_arguments.proofs.Finishing.{cell_of}
use Rattle.libc_print.proofs.values.take_pointer.Goals as goal

pub returns-then-is_pointer_at-clause-cell : goal.returns-then-is_pointer_at-clause-cell
returns-then-is_pointer_at-clause-cell c = λ m cells.
    cell_of m (values_seen c.args.args.now.values.now) c.in_ok-at.at c.pointer_at.result.addr c.pointer_at.result.prov cells
    (rw c.in_ok-at.ensures.values at c.pointer_at.ensures)
