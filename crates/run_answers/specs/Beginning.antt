-- A full expression begins (6.8p4).
use Rattle.std.specs.Prelude.{◌≡◌, ◌≢◌, ℕ, suc, ◌+◌, ◌≤◌, ◌<◌, ◌^◌, List, [], length, Some, slice_get}
use Rattle.std.specs.Borrow.{Bor}
use Rattle.c_typed.specs.declared.tree.Typed.{Typed}
use Rattle.c_model.specs.Program.{Expr}
use Rattle.c_model.specs.Runs.{State}
use Rattle.c_model.specs.Steps.{Scene}
use Rattle.c_model.specs.World.{World}
use Rattle.program_view.specs.Trees.{expr_of}
use Rattle.run_layout.specs.declared.steps.Expression.{Expression}
use Rattle.run_layout.specs.declared.steps.Range.{Range}
use Rattle.run_layout.specs.declared.whole.Code.{Code}
use Rattle.run_layout.specs.Chosen.{Views}
use Rattle.run_state.specs.declared.machine.Machine.{Machine}
use Rattle.run_state.specs.declared.machine.Open.{Open}
use Rattle.run_state.specs.declared.watch.Begun.{Begun}

-- the next turn of a frame
abbrev pub next_turn : Scene → Scene
next_turn f = record f { turn = suc f.turn }

-- What is asked for a full expression to begin: turns have numbers of 64 bits; and what its code takes to be known beforehand is so by the definitions, and
-- unequal to 0 where they say so, whatever numbers the objects of the blocks have.
pub record CanBegin (world : World) (code : Code) (o : Open) (st : State) (e : Expr) : Type 0 where
  pub turn : o.turn + 1 < 2 ^ 64
  pub known : (n : ℕ) (laid : Expression) (firsts : List ℕ) → slice_get code.expressions.items n ≡ Some laid → expr_of laid.root.now ≡ e
      → Views world (next_turn st.top.scene) firsts 0 laid.root.now e

-- the number is one of a range
pub record IsAmong (range : Range) (number : ℕ) : Type 0 where
  pub first : range.first ≤ number
  pub end : number < range.first + range.count

-- The full expression of this number and root is that of the top frame, in which no operand is chosen yet. Those of other frames stay.
pub record HasShown (old : Machine) (number : ℕ) (root : Bor Typed) (new : Machine) : Type 0 where
  pub rest : new ≡ record old { begun = new.begun }
  pub others : (j : ℕ) (b : Begun) → j ≢ length old.below.items → slice_get old.begun.items j ≡ Some b → slice_get new.begun.items j ≡ Some b
  pub shown : length old.below.items ≤ length old.begun.items → slice_get new.begun.items (length old.below.items)
      ≡ Some (record { frame = old.top.frame; turn = old.top.turn; tree = number; root = root; taken = [] })
