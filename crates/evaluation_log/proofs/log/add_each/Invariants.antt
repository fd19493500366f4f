-- The set has what it had, and the items so far.
use Rattle.std.specs.Prelude.{◌≡◌, ◌<◌, ℕ, true, Some, slice_get}
use Rattle.ub_base.specs.declared.names.Item.{Item}
use Rattle.footprint.specs.Holds.{holds, stands_for}
use Rattle.evaluation_log.proofs.log.add_each.Given as goal

abbrev pub invariant-loop-p : goal.invariant-loop-p
invariant-loop-p l = record {
  more : (j : Item) → holds l.fn.foot j ≡ true → holds l.foot j ≡ true;
  all : (p : ℕ) → p < l.p → (x j : Item) → slice_get l.items p ≡ Some x → stands_for x j ≡ true → holds l.foot j ≡ true;
}
