-- A full expression is settled: its value is used (6.8p4).
use Rattle.std.specs.Prelude.{◌≡◌, ℕ, true, false, List, [], ◌∷◌, slice_get, Option, Some, None}
use Rattle.std.specs.Borrow.{Bor}
use Rattle.mem_objects.specs.Memory.{Kept}
use Rattle.mem_objects.specs.declared.value.Value.{Value as Kept_value}
use Rattle.c_model.specs.Control.{Todo, Break_here, Unused, ready_work, selected}
use Rattle.c_model.specs.Control as todo
use Rattle.c_model.specs.Program.{tree_of}
use Rattle.c_model.specs.Runs.{State}
use Rattle.c_model.specs.Steps.{Begun, Scene, root_value, settled}
use Rattle.c_model.specs.Values.{integer_of, truth}
use Rattle.c_model.specs.World.{World}
use Rattle.c_typed.specs.Tree.{is_quiet}
use Rattle.program_view.specs.Trees.{expr_of}
use Rattle.run_values.specs.Views.{value_in}
use Rattle.run_control.specs.declared.statement.Statement.{Statement}
use Rattle.run_control.specs.declared.work.Use.{Use}
use Rattle.run_control.specs.declared.work.Use.TheVariants as for_use
use Rattle.run_control.specs.Targets.{AllEqual, bodies}
use Rattle.run_control.specs.View.{Meaning, after, is_nothing, todo_of}
use Rattle.run_statements.specs.Jumping.{HasJumps}
use Rattle.run_layout.specs.declared.steps.Expression.{Expression}
use Rattle.run_layout.specs.declared.steps.Operand.{Operand}
use Rattle.run_layout.specs.Resolved.{resolved}
use Rattle.run_state.specs.declared.machine.Machine.{Machine}
use Rattle.run_state.specs.declared.machine.Stage.{Stage}
use Rattle.run_state.specs.Operands.{AreAddresses, IsNamed, operand_in}
use Rattle.run_answers.specs.Ending.{CanEnd}
use Rattle.run_answers.specs.Jumps.{HasCases}

-- 1. What the code does.

-- the result of a frame once a value was used
abbrev pub left_by : Use → Kept_value → Option Kept_value → Option Kept_value
left_by for_use.Result h left = Some h
left_by how h left = left

-- What the operand gives is used: as the result of the frame, and for what is left to do. Nothing else changes.
pub record HasUsed (old : Machine) (how : Use) (o : Operand) (new : Machine) : Type 0 where
  pub rest : new ≡ record old { work = new.work; left = new.left }
  pub below : new.work.below ≡ old.work.below
  pub left : (h : Kept_value) → operand_in old o ≡ Some h → new.left ≡ left_by how h old.left
  pub now : (h : Kept_value) → operand_in old o ≡ Some h → (k : Kept) (m : Meaning)
      → todo_of m new.work.now ≡ after m (truth (value_in k h)) (integer_of (value_in k h)) how (todo_of m old.work.now)

-- The `switch` of this number stands in the body of the top frame's function, and goes where the definitions go by the value of the operand (6.8.4.2p5), for
-- each meaning in which each `switch` number in that body stands for the body that stands there. Nothing else changes.
pub record HasSelected (old : Machine) (n : ℕ) (o : Operand) (new : Machine) : Type 0 where
  pub rest : new ≡ record old { work = new.work }
  pub below : new.work.below ≡ old.work.below
  pub now : (h : Kept_value) → operand_in old o ≡ Some h → (k : Kept) (bs : List (Option (Bor Statement))) (function : ℕ) (body : Bor Statement)
      → HasJumps old.jumps bs → old.top.function ≡ Some function → slice_get bs function ≡ Some (Some body) → (m : Meaning) → AllEqual (bodies m body.now)
      → todo_of m new.work.now ≡ selected (integer_of (value_in k h)) (m.body n) (Break_here ∷ todo_of m old.work.now)

-- 2. What is asked of a machine, and of the state that it stands for: so it is in each state of a run.

-- Behind it a function's frame has something left to do, its blocks at least. The value of an isolated initializer has no use, and its frame, which
-- ends where nothing else is left to do, can be ended.
abbrev pub GoesBehind : Option ℕ → Machine → State → todo.Use → (behind : Todo) → Type 0
GoesBehind (Some n) m st what behind = is_nothing (ready_work behind) ≡ false
GoesBehind None m st what behind = (what ≡ Unused) × (is_nothing (ready_work behind) ≡ true → CanEnd m st)

-- Its code takes the value from where its root has it, for some numbering of the objects of its function; where the value is known beforehand, what it names
-- is there: an object of an open block, one with static storage, a literal. So it is asked of the machine that has touched nothing.
pub record IsUsable (m : Machine) (f : Scene) (laid : Expression) : Type 0 where
  pub firsts : List ℕ
  pub value : laid.value ≡ resolved firsts laid.root.now 0
  pub named : is_quiet (tree_of (expr_of laid.root.now)) ≡ true → IsNamed (record m { items = [] }) firsts f.blocks (expr_of laid.root.now)

-- The full expression that is open in the top frame can be settled. Where it is the test of a `switch`, the cases that are kept are those of the function's
-- body. Rows begin at addresses.
pub record CanSettle (world : World) (m : Machine) (st : State) (e : Begun) : Type 0 where
  pub behind : GoesBehind m.top.function m st e.what (settled world st.top (root_value world st.top e) e.what).todo
  pub chooses : HasCases m.image.code.now m.jumps m.top.function m.top.how
  pub addresses : AreAddresses world.rows
  pub usable : (stage : Stage) (laid : Expression) → m.top.stage ≡ Some stage → slice_get m.image.code.now.expressions.items stage.expression ≡ Some laid
      → IsUsable m st.top.scene laid
