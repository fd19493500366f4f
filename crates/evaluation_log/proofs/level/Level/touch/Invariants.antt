-- What the frame had is kept so far, and where its part of the lists begins; the items so far are among what it has.
use Rattle.std.specs.Prelude.{◌≡◌, ◌<◌, ◌⊎◌, ℕ, true, Some, slice_get}
use Rattle.ub_base.specs.declared.names.Item.{Item}
use Rattle.footprint.specs.Holds.{holds}
use Rattle.evaluation_log.specs.Bodies.{Keeps}
use Rattle.evaluation_log.specs.Touched.{touched}
use Rattle.evaluation_log.specs.Kept.{cut_of}
use Rattle.evaluation_log.specs.Remembered.{AreKnown, HasHadAll, IsOfOne}
use Rattle.evaluation_log.proofs.level.Level.touch.Given as goal

abbrev pub invariant-loop-item : goal.invariant-loop-item
invariant-loop-item l = record {
  keeps : Keeps l.fn.self.foot l.self.foot;
  cut : cut_of (Some l.self) ≡ cut_of (Some l.fn.self);
  frame : l.self.frame ≡ l.fn.self.frame;
  turn : l.self.turn ≡ l.fn.self.turn;
  known : AreKnown l.fn.known l.fn.self.frame l.fn.self.foot → AreKnown l.known l.self.frame l.self.foot;
  others : IsOfOne l.fn.known l.known l.fn.self.frame;
  only : (i : Item) → holds l.self.foot i ≡ true → (holds l.fn.self.foot i ≡ true) ⊎ (touched l.items 0 l.item-index i ≡ true);
  has : AreKnown l.fn.known l.fn.self.frame l.fn.self.foot →
      (p : ℕ) (item : Item) → p < l.item-index → slice_get l.items p ≡ Some item → HasHadAll l.self.foot item;
}
