-- None of the items so far is noted.
use Rattle.std.specs.Prelude.{◌≡◌, ◌<◌, ℕ, false, Some, slice_get}
use Rattle.ub_base.specs.declared.names.Item.{Item}
use Rattle.quiet_trees.specs.Items.{is_noted}
use Rattle.quiet_trees.proofs.items.some_noted.Given as goal

abbrev pub invariant-loop-p : goal.invariant-loop-p
invariant-loop-p l = (p : ℕ) → p < l.p → (x : Item) → slice_get l.items p ≡ Some x → is_noted x ≡ false
