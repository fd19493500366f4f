-- The first conflict with those of the list so far.
use Rattle.std.specs.Prelude.{◌≡◌, ◌≤◌, ◌<◌, ◌-◌, ◌^◌, ℕ, None, slice_get, length}
use Rattle.c_typed.specs.Tree.{size, tree_of}
use Rattle.seq_order.specs.Marked.{taken_in}
use Rattle.evaluation_log.specs.FoundItems.{ItemsConflict}
use Rattle.evaluation_search.specs.First.{IsFirstOf, IsOfPair}
use Rattle.run_evaluations.proofs.BelowLemmas.{Within}
use Rattle.run_evaluations.specs.Below.{IsClean, IsListedAt}
use Rattle.run_evaluations.specs.First.{expression_in}
use Rattle.run_evaluations.proofs.open.Evaluations.found_among.Given as goal

abbrev pub invariant-loop-i : goal.invariant-loop-i
invariant-loop-i l = record {
  conflict : ItemsConflict l.best;
  none : size (tree_of l.order.root.now) < 2 ^ 32 → l.best ≡ None → (i : ℕ) → i < l.i → l.fn.loose ≤ i →
      IsClean l.under.map.now (taken_in l.order.taken.now) (tree_of l.order.root.now) l.self.events.items l.self.items.items l.event
      (slice_get l.self.loose.items i);
  first : size (tree_of l.order.root.now) < 2 ^ 32 → IsFirstOf l.under.frames.now (Within (λ i. IsOfPair l.under.frames.now l.under.map.now
      (expression_in (slice_get l.self.levels.items (length l.self.levels.items - 1))) l.self.events.items l.self.items.items
      (IsListedAt (taken_in l.order.taken.now) (tree_of l.order.root.now) l.self.events.items l.self.loose.items l.event i)) l.fn.loose l.i) l.best;
}
