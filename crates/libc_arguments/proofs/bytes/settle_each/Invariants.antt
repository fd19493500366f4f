-- What is left takes effect from here, and each object lives as before.
use Rattle.std.proofs.Common.{drop}
use Rattle.libc_arguments.proofs.Living.{SettlesAlive}
use Rattle.libc_arguments.proofs.bytes.settle_each.Given as goal

abbrev pub invariant-loop-item : goal.invariant-loop-item
invariant-loop-item l = SettlesAlive l.fn.m l.m l.items (drop l.item-index l.items)
