-- The set of what stands behind, and that no operand so far conflicts with what stands behind it, or the best one does.
use Rattle.std.specs.Prelude.{◌≡◌, ◌-◌, ◌≤◌, ◌<◌, ℕ, length, IfNone, IfSome}
use Rattle.ub_base.specs.declared.names.Item.{Item}
use Rattle.footprint.specs.Holds.{holds}
use Rattle.evaluation_log.specs.Touched.{range_has, start_of}
use Rattle.evaluation_log.specs.Clashes.{SomeClash, NoClash, AreSorted, NoneBehind, operand_has, behind_has}
use Rattle.evaluation_search.proofs.search.Search.first_group.Given as goal

abbrev pub invariant-loop-group : goal.invariant-loop-group
invariant-loop-group l = record {
  rest : AreSorted l.segments l.self.log.events.now l.fn.at → (j : Item) → holds l.rest j ≡
      range_has l.self.log.events.now l.self.log.items.now l.sought (start_of l.segments l.self.log.events.now l.group)
      (length l.self.log.events.now - start_of l.segments l.self.log.events.now l.group) j;
  none : AreSorted l.segments l.self.log.events.now l.fn.at →
      IfNone l.best (NoneBehind l.sought l.self.under.map.now l.segments l.self.log.events.now l.self.log.items.now l.group);
  some : AreSorted l.segments l.self.log.events.now l.fn.at → IfSome l.best
      (λ g. SomeClash l.sought l.self.under.map.now (operand_has l.sought l.segments l.self.log.events.now l.self.log.items.now g)
      (behind_has l.sought l.segments l.self.log.events.now l.self.log.items.now g));
  first : AreSorted l.segments l.self.log.events.now l.fn.at → IfSome l.best (λ g. (l.fn.at ≤ g) × ((h : ℕ) → l.group ≤ h → h < g →
      NoClash l.sought l.self.under.map.now (operand_has l.sought l.segments l.self.log.events.now l.self.log.items.now h)
      (behind_has l.sought l.segments l.self.log.events.now l.self.log.items.now h)));
}
