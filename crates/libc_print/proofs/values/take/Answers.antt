use Rattle.std.proofs.Common.{add-one, refl, arith}
use Rattle.libc_print.proofs.Taking.{typed-at, typed-end}
use Rattle.libc_print.proofs.values.take.Goals as goal

pub returns-then-at-count-clause-item : goal.returns-then-at-count-clause-item
returns-then-at-count-clause-item c =
    let e = typed-at c.args.args.now.next c.args.args.now.values.now c.args.args.now.types.now (omega arith) in
    rw add-one e

pub returns-else-at-count-clause-none : goal.returns-else-at-count-clause-none
returns-else-at-count-clause-none c = (refl, typed-end c.args.args.now.next c.args.args.now.values.now c.args.args.now.types.now (omega arith))
