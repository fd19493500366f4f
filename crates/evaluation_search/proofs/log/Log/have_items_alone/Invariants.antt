-- No event so far started a frame.
use Rattle.std.specs.Prelude.{◌≡◌, ◌≤◌, ◌<◌, ℕ, None, Some, slice_get}
use Rattle.evaluation_log.specs.declared.log.Logged.{Logged}
use Rattle.evaluation_search.proofs.log.Log.have_items_alone.Given as goal

abbrev pub invariant-loop-at : goal.invariant-loop-at
invariant-loop-at l = (k : ℕ) → k < l.at → l.fn.from ≤ k → (e : Logged) → slice_get l.self.events.now k ≡ Some e → e.foot ≡ None
