-- A frame has its result only when just open blocks are left (6.8.6.4): not while a full expression is open, nor where anything else is left to do.
use Rattle.std.specs.Prelude.{◌≡◌, ◌⊎◌, ℕ, List, [], ◌∷◌, Option, Some, None}
use Rattle.c_typed.specs.declared.tree.Place.{Place}
use Rattle.c_model.specs.Control.{Todo, Leave, Begin, Unused}
use Rattle.c_model.specs.Program.{Expr}
use Rattle.c_model.specs.Runs.{State, Running, After, step, start, canonical_after}
use Rattle.c_model.specs.Steps.{Begun, Local, Pick}
use Rattle.c_model.specs.Values.{Value, Nothing}
use Rattle.c_model.specs.World.{World}

-- blocks are left, and nothing else is done
abbrev pub JustLeaves : Todo → Type 0
JustLeaves [] = Unit {0}
JustLeaves (Leave b ds ∷ rest) = JustLeaves rest
JustLeaves (w ∷ rest) = ⊥

-- a function's frame that has its result
pub record HasReturned (f : Local) : Type 0 where
  pub begun : f.begun ≡ None
  pub todo : JustLeaves f.todo

-- an isolated initializer has none to give, from its start on (6.7.9p23): it begins its full expression, whose value has no use
pub record GivesNothing (f : Local) : Type 0 where
  pub result : f.result ≡ Some Nothing
  pub todo : (f.todo ≡ []) ⊎ ((e : Expr) × (f.todo ≡ Begin e Unused ∷ []))
  pub begun : (e : Begun) → f.begun ≡ Some e → e.what ≡ Unused

abbrev pub ResultIsLast : Local → Option ℕ → Type 0
ResultIsLast f None = GivesNothing f
ResultIsLast f (Some n) = (v : Value) → f.result ≡ Some v → HasReturned f

-- so a function's frame in which a full expression is open has no result yet
abbrev pub OpenHasNone : Type 0
OpenHasNone = (f : Local) (n : ℕ) (e : Begun) → f.function ≡ Some n → ResultIsLast f f.function → f.begun ≡ Some e → f.result ≡ None

-- nor has one where anything but leaves is left to do
abbrev pub BusyHasNone : Type 0
BusyHasNone = (f : Local) (n : ℕ) → f.function ≡ Some n → ResultIsLast f f.function → (JustLeaves f.todo → ⊥) → f.result ≡ None

abbrev pub ResultsAreLast : List (Local × Place) → Type 0
ResultsAreLast [] = Unit {0}
ResultsAreLast (h ∷ hs) = ResultIsLast h.0 h.0.function × ResultsAreLast hs

-- the top frame and those that are held
abbrev pub IsUnresulted : State → Type 0
IsUnresulted st = ResultIsLast st.top st.top.function × ResultsAreLast st.held

abbrev pub StartsUnresulted : Type 0
StartsUnresulted = (world : World) (input : List ℕ) (vs : List Value) (st : State) → start world input vs ≡ Running st → IsUnresulted st

-- each pick keeps it so, whether or not it is permitted
abbrev pub StepsUnresulted : Type 0
StepsUnresulted = (world : World) (st after : State) (p : Pick) → IsUnresulted st → step world st p ≡ Running after → IsUnresulted after

abbrev pub OrdersUnresulted : Type 0
OrdersUnresulted = (world : World) (st after : State) (ps : List Pick) → IsUnresulted st → After world st ps (Running after) → IsUnresulted after

abbrev pub CanonicalUnresulted : Type 0
CanonicalUnresulted = (world : World) (n : ℕ) (st after : State) → IsUnresulted st → canonical_after world n st ≡ Running after → IsUnresulted after
