-- What holds of each open frame of a machine along the canonical order, beside that it stands for a frame of the definitions (own).
use Rattle.std.specs.Prelude.{◌≡◌, ◌+◌, ◌≤◌, ℕ, true, List, [], ◌∷◌, length, Option, Some, None, slice_get}
use Rattle.c_model.specs.Steps.{Begun, Local, Scene}
use Rattle.c_model.specs.World.{World}
use Rattle.seq_order.specs.Marked.{taken_in}
use Rattle.run_layout.specs.Chosen.{IsKept}
use Rattle.run_layout.specs.declared.steps.FunctionCode.{FunctionCode}
use Rattle.run_layout.specs.declared.steps.Range.{Range}
use Rattle.run_state.specs.declared.machine.Machine.{Machine}
use Rattle.run_state.specs.declared.machine.Open.{Open}
use Rattle.run_state.specs.declared.machine.Stage.{Stage}
use Rattle.run_state.specs.declared.watch.Begun.{Begun as Shown}
use Rattle.run_answers.specs.Beginning.{IsAmong}

-- 1. The full expression that is open.

-- Its order is the canonical one so far. What is kept of choices is so by the definitions, and its values have rooms.
pub record KeepsOpen (world : World) (m : Machine) (height : ℕ) (o : Open) (s : Stage) (f : Scene) (e : Begun) : Type 0 where
  pub straight : s.straight ≡ true
  pub chosen : (b : Shown) → slice_get m.begun.items height ≡ Some b → IsKept world f e (taken_in b.taken)
  pub rooms : o.base + o.rooms ≤ length m.values.items

abbrev pub KeepsBegun : World → Machine → ℕ → Open → Option Stage → Scene → Option Begun → Type 0
KeepsBegun world m height o (Some s) f (Some e) = KeepsOpen world m height o s f e
KeepsBegun world m height o _ f _ = Unit {0}

-- 2. The function whose objects the frame sees.

-- the full expression that is open is one of these
abbrev pub IsOneOf : Range → Option Stage → Type 0
IsOneOf range None = Unit {0}
IsOneOf range (Some s) = IsAmong range s.expression

-- Its blocks are those of the function of this number, there is a place for each of its objects, and its full expression is one of that function.
pub record SeesFunction (m : Machine) (o : Open) (n : ℕ) : Type 0 where
  pub code : FunctionCode
  pub at : slice_get m.image.code.now.functions.items n ≡ Some (Some code)
  pub blocks : o.blocks ≡ code.blocks
  pub expressions : o.expressions ≡ code.expressions
  pub above : o.above ≡ o.locals + code.objects
  pub places : o.above ≤ length m.locals.items
  pub own : IsOneOf code.expressions o.stage

-- the function of a frame; that of an isolated initializer is that of the frame below
abbrev pub function_of : Option ℕ → List Open → Option ℕ
function_of (Some n) below = Some n
function_of None [] = None
function_of None (o ∷ os) = function_of o.function os

abbrev pub Sees : Machine → Open → Option ℕ → Type 0
Sees m o None = ⊥
Sees m o (Some n) = SeesFunction m o n

-- 3. A frame on these, after so many picks.
pub record KeepsFrame (world : World) (m : Machine) (o : Open) (below : List Open) (f : Local) (n : ℕ) : Type 0 where
  pub begun : KeepsBegun world m (length below) o o.stage f.scene f.begun
  pub sees : Sees m o (function_of o.function below)
  pub turn : o.turn ≤ n
  pub base : o.base ≤ length m.values.items
  -- the rooms of the lowest one come first
  pub lowest : below ≡ [] → o.base ≡ 0

-- The frames, from the top one down.
abbrev pub KeepFrames : World → Machine → List Open → List Local → ℕ → Type 0
KeepFrames world m [] fs n = Unit {0}
KeepFrames world m (o ∷ os) [] n = Unit {0}
KeepFrames world m (o ∷ os) (f ∷ fs) n = KeepsFrame world m o os f n × KeepFrames world m os fs n
