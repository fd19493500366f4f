-- No event of the list so far clashes.
use Rattle.std.specs.Prelude.{◌≤◌, ◌<◌, ℕ, slice_get}
use Rattle.evaluation_log.specs.declared.sought.Sought.TheVariants.{Any}
use Rattle.evaluation_log.specs.Touched.{event_has}
use Rattle.evaluation_log.specs.Clashes.{NoClash}
use Rattle.evaluation_log.specs.Loose.{loose_has}
use Rattle.evaluation_search.proofs.log.Log.meets_few.Given as goal

abbrev pub invariant-loop-i : goal.invariant-loop-i
invariant-loop-i l = (i : ℕ) → i < l.i → l.loose ≤ i → NoClash Any l.map (event_has l.self.items.now (slice_get l.self.events.now l.at))
    (loose_has l.self.events.now l.self.items.now l.self.loose.now i)
