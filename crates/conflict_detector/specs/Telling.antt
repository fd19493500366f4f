-- What may be told of the full expression on top, and which frames are left before it is (own).
use Rattle.std.specs.Prelude.{◌≡◌, ◌≢◌, ◌⊎◌, ◌<◌, ◌+◌, ◌^◌, ℕ, Bool, true, List, [], ◌∷◌, Some}
use Rattle.ub_base.specs.declared.names.Frame.{Frame}
use Rattle.ub_base.specs.declared.names.Item.{Item}
use Rattle.c_typed.specs.declared.tree.Place.{Place}
use Rattle.c_typed.specs.declared.class.Class.{Class}
use Rattle.c_typed.specs.Tree.{Trees, node}
use Rattle.c_typed.specs.Decide.{due_in}
use Rattle.run_evaluations.specs.Follows.{HasStarted}
use Rattle.run_evaluations.specs.Scopes.{Scope, part_of}
use Rattle.run_evaluations.specs.Told.{Opened, IsNext, given, no_parts}

-- the node is one of the full expression, and next in post-order
pub record TellsAt (t : Opened) (n : ℕ) : Type 0 where
  pub class : Class
  pub operands : Trees
  pub there : part_of t.scope n ≡ Some (node class operands)
  pub next : IsNext t n class operands
  pub small : n + 1 < 2 ^ 32

-- an event of it is due
pub record TellsEvent (t : Opened) (u : Place) : Type 0 where
  pub own : TellsAt t u.node
  pub due : due_in t.scope.taken 0 t.scope.tree u ≡ true

-- ---- frames that are left
-- each of these frames was started by an evaluation of the one below it
abbrev pub AreStarted : List Opened → Type 0
AreStarted [] = Unit {0}
AreStarted (t ∷ []) = Unit {0}
AreStarted (t ∷ u ∷ us) = HasStarted u us × AreStarted (u ∷ us)

-- the frame is open
abbrev pub IsOpen : Frame → List Opened → Type 0
IsOpen f [] = ⊥
IsOpen f (t ∷ ts) = (t.frame ≡ f) ⊎ IsOpen f ts

-- The frames above this one are left, each of which gives what it touched to the evaluation that started it.
pub data LeftTo (f : Frame) (fs : List Opened) : List Opened → Type 0 where
  stays : LeftTo f fs fs
  left : (t u : Opened) (us : List Opened) (body : Item → Bool) → t.frame ≢ f → LeftTo f fs (given body u ∷ us) → LeftTo f fs (t ∷ u ∷ us)

-- this frame is on top then
pub record IsReached (f : Frame) (os fs : List Opened) : Type 0 where
  pub top : Opened
  pub below : List Opened
  pub is : fs ≡ top ∷ below
  pub name : top.frame ≡ f
  pub left : LeftTo f fs os
  pub started : AreStarted fs

-- a full expression of this frame begins, in this turn
abbrev pub fresh : Frame → ℕ → Scope → Opened
fresh f turn s = record { frame = f; turn = turn; scope = s; done = []; parts = no_parts }

-- nothing, or the frame of `main` with nothing done
abbrev pub IsBare : List Opened → Type 0
IsBare [] = Unit {0}
IsBare (m ∷ []) = m.done ≡ []
IsBare (m ∷ n ∷ ms) = ⊥
