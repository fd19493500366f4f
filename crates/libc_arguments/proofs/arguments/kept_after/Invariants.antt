-- What is left goes on from here.
use Rattle.std.proofs.Common.{◌≡◌, drop}
use Rattle.libc_arguments.specs.Parts.{kept_after}
use Rattle.libc_arguments.proofs.arguments.kept_after.Given as goal

abbrev pub invariant-loop-item : goal.invariant-loop-item
invariant-loop-item l = kept_after (drop l.item-index l.items) l.id l.kept ≡ kept_after l.items l.id l.fn.before
