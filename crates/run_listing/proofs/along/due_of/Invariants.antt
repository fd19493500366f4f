use Rattle.std.proofs.Common.{◌≡◌, ◌≢◌, ◌<◌, ℕ, Some, slice_get}
use Rattle.run_layout.specs.declared.steps.Due.{Due}
use Rattle.run_layout.specs.declared.steps.Listed.TheVariants as listed
use Rattle.run_listing.proofs.along.due_of.Given as goal

-- no entry so far is of this event
abbrev pub invariant-loop-entry : goal.invariant-loop-entry
invariant-loop-entry l = (at : ℕ) (due : Due) → at < l.entry-index → slice_get l.entries at ≡ Some (listed.Event due) → due.place ≢ l.place
