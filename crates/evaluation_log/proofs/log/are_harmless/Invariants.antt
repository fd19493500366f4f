-- Each item so far is harmless.
use Rattle.std.specs.Prelude.{◌≡◌, ◌<◌, ℕ, true, Some, slice_get}
use Rattle.ub_base.specs.declared.names.Item.{Item}
use Rattle.evaluation_log.specs.Kept.{is_harmless}
use Rattle.evaluation_log.proofs.log.are_harmless.Given as goal

abbrev pub invariant-loop-p : goal.invariant-loop-p
invariant-loop-p l = (p : ℕ) → p < l.p → (x : Item) → slice_get l.items p ≡ Some x → is_harmless x ≡ true
