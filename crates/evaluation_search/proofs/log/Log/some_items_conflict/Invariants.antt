-- No item of a segment so far conflicts with one of a later segment.
use Rattle.std.specs.Prelude.{◌≤◌, ◌<◌, ℕ, suc}
use Rattle.evaluation_log.specs.Kept.{AreApart, items_of}
use Rattle.evaluation_search.proofs.log.Log.some_items_conflict.Given as goal

abbrev pub invariant-loop-group : goal.invariant-loop-group
invariant-loop-group l = (g : ℕ) → g < l.group → l.fn.at ≤ g → AreApart l.map l.self.items.now
    (items_of l.segments l.self.items.now g) (items_of l.segments l.self.items.now (suc g))
