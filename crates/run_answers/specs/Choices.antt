-- Operands are chosen in the full expression of a machine's top frame (6.5.13p4, 6.5.14p4, 6.5.15p4).
use Rattle.std.specs.Prelude.{◌≡◌, ◌≢◌, ℕ, List, length, Option, Some, slice_get}
use Rattle.seq_order.specs.Marked.{taken_in}
use Rattle.run_layout.specs.Chosen.{with_chosen}
use Rattle.run_state.specs.declared.machine.Machine.{Machine}
use Rattle.run_state.specs.declared.watch.Begun.{Begun}

-- Each of these nodes takes its operand, one after the other. Nothing else changes: not the full expressions of other frames.
pub record HasChosen (old : Machine) (cs : List (ℕ × ℕ)) (new : Machine) : Type 0 where
  pub rest : new ≡ record old { begun = new.begun }
  pub others : (j : ℕ) (b : Begun) → j ≢ length old.below.items → slice_get old.begun.items j ≡ Some b → slice_get new.begun.items j ≡ Some b
  pub taken : (b : Begun) → slice_get old.begun.items (length old.below.items) ≡ Some b → (choices : List (Option ℕ))
      × (slice_get new.begun.items (length old.below.items) ≡ Some (record b { taken = choices }))
      × ((n : ℕ) → taken_in choices n ≡ with_chosen cs (taken_in b.taken) n)
