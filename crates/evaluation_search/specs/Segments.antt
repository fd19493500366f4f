-- Segments of which only the sets that are kept of them have changed (own).
use Rattle.std.specs.Prelude.{◌≡◌, ◌≢◌, ℕ, List, None, slice_get}
use Rattle.evaluation_log.specs.declared.log.Segment.{Segment}
use Rattle.evaluation_log.specs.Kept.{harmless_of, foot_of, marks, loose_mark}
use Rattle.evaluation_log.specs.Ways.{node_of}

-- segments begin where they did, of the nodes that they were of, the same are harmless, and what is kept of their loose events is as it was
pub record AreAlike (old new : List Segment) : Type 0 where
  pub alike : (g : ℕ) → marks (slice_get new g) ≡ marks (slice_get old g)
  pub harm : (g : ℕ) → harmless_of (slice_get new g) ≡ harmless_of (slice_get old g)
  pub lows : (g : ℕ) → loose_mark (slice_get new g) ≡ loose_mark (slice_get old g)
  pub nodes : (g : ℕ) → node_of (slice_get new g) ≡ node_of (slice_get old g)

-- all is as it was, but for the set of one segment, which is gone
pub record IsTaken (old new : List Segment) (at : ℕ) : Type 0 where
  pub same : AreAlike old new
  pub gone : foot_of (slice_get new at) ≡ None
  pub others : (g : ℕ) → g ≢ at → slice_get new g ≡ slice_get old g
