-- All is as it was but for the sets of segments so far, which the set has, and of which no two clash.
use Rattle.std.specs.Prelude.{◌≡◌, ◌≤◌, ◌<◌, ℕ, slice_get}
use Rattle.evaluation_log.specs.declared.sought.Sought.TheVariants.{Any}
use Rattle.evaluation_log.specs.Clashes.{NoClash, operand_has}
use Rattle.evaluation_log.specs.Kept.{Kept, Gathers}
use Rattle.evaluation_search.specs.Segments.{AreAlike}
use Rattle.evaluation_log.proofs.WholeLemmas.{LosesFeet}
use Rattle.evaluation_search.proofs.log.Log.gathered_conflict.Given as goal

abbrev pub invariant-loop-group : goal.invariant-loop-group
invariant-loop-group l = record {
  same : AreAlike l.fn.segments l.segments;
  lost : LosesFeet l.fn.segments l.segments;
  left : (g : ℕ) → l.group ≤ g → slice_get l.segments g ≡ slice_get l.fn.segments g;
  gathered : Kept l.fn.segments l.self.events.now l.self.items.now l.self.large.now l.fn.at → (g : ℕ) → g < l.group → l.fn.at ≤ g →
      Gathers l.fn.segments l.self.events.now l.self.items.now g l.all;
  none : Kept l.fn.segments l.self.events.now l.self.items.now l.self.large.now l.fn.at → (h : ℕ) → h < l.group → (g : ℕ) →
      l.fn.at ≤ g → g < h → NoClash Any l.map (operand_has Any l.fn.segments l.self.events.now l.self.items.now g)
      (operand_has Any l.fn.segments l.self.events.now l.self.items.now h);
}
