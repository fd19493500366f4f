-- Each segment so far is harmless.
use Rattle.std.specs.Prelude.{◌≡◌, ◌≤◌, ◌<◌, ℕ, true, Some, slice_get}
use Rattle.evaluation_log.specs.declared.log.Segment.{Segment}
use Rattle.evaluation_search.proofs.segments.all_harmless.Given as goal

abbrev pub invariant-loop-group : goal.invariant-loop-group
invariant-loop-group l = (g : ℕ) → g < l.group → l.fn.at ≤ g → (s : Segment) → slice_get l.segments g ≡ Some s → s.harmless ≡ true
