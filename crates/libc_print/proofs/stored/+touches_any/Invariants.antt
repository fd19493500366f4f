use Rattle.std.proofs.Common.{length}
use Rattle.libc_print.proofs.stored.+touches_any.Given as goal

abbrev pub decreases-touches_any : goal.decreases-touches_any
decreases-touches_any l = length l.items.now
