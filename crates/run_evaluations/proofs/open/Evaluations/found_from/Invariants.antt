-- The first conflict of the events so far.
use Rattle.std.specs.Prelude.{◌≡◌, ◌≤◌, ◌<◌, ◌-◌, ◌^◌, ℕ, None, slice_get, length}
use Rattle.c_typed.specs.Tree.{size, tree_of}
use Rattle.seq_order.specs.Marked.{taken_in}
use Rattle.evaluation_log.specs.FoundItems.{ItemsConflict}
use Rattle.evaluation_log.specs.Loose.{LooseKept}
use Rattle.evaluation_search.specs.First.{IsFirstOf, IsOfPair}
use Rattle.run_evaluations.proofs.BelowLemmas.{Within}
use Rattle.run_evaluations.specs.Below.{AreListedWith, NoneListed}
use Rattle.run_evaluations.specs.First.{expression_in}
use Rattle.run_evaluations.proofs.open.Evaluations.found_from.Given as goal

abbrev pub invariant-loop-at : goal.invariant-loop-at
invariant-loop-at l = record {
  conflict : ItemsConflict l.best;
  none : size (tree_of l.order.root.now) < 2 ^ 32 → LooseKept l.self.segments.items l.self.events.items l.self.items.items l.self.loose.items l.loose →
      l.best ≡ None →
      (k : ℕ) → k < l.at → l.fn.own ≤ k →
      NoneListed l.under.map.now (taken_in l.order.taken.now) (tree_of l.order.root.now) l.self.events.items l.self.items.items l.self.loose.items l.loose k;
  first : size (tree_of l.order.root.now) < 2 ^ 32 → LooseKept l.self.segments.items l.self.events.items l.self.items.items l.self.loose.items l.loose →
      IsFirstOf l.under.frames.now (Within (λ k. IsOfPair l.under.frames.now l.under.map.now
      (expression_in (slice_get l.self.levels.items (length l.self.levels.items - 1))) l.self.events.items l.self.items.items
      (AreListedWith (taken_in l.order.taken.now) (tree_of l.order.root.now) l.self.events.items l.self.loose.items k l.loose)) l.fn.own l.at) l.best;
}
