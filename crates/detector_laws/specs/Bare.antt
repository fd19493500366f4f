-- The value of an assignment or a list has no items, along a run (6.5.16p3, 6.7.9p23).
use Rattle.std.specs.Prelude.{◌≡◌, ℕ, true, List, [], ◌∷◌, Option, Some, None}
use Rattle.ub_base.specs.declared.clause.Kind.TheVariants.{Val}
use Rattle.c_typed.specs.declared.class.Class.TheVariants.{Store}
use Rattle.c_typed.specs.declared.tree.Place.{Place}
use Rattle.c_typed.specs.Order.{place}
use Rattle.c_typed.specs.Tree.{Trees, node}
use Rattle.c_model.specs.Moments.{items_by}
use Rattle.c_model.specs.Runs.{Entry, Running, State, canonical_pick, step}
use Rattle.c_model.specs.Steps.{Begun, Local, Scene, is_done}
use Rattle.c_model.specs.World.{World}
use Rattle.run_evaluations.specs.Scopes.{part_of}
use Rattle.detector_laws.specs.Looked.{scope_of}
use Rattle.detector_laws.specs.Frames.{AreFree}

-- where it is done
abbrev pub IsBareStore : World → List Entry → Scene → Begun → ℕ → Type 0
IsBareStore world trace f e n = (ts : Trees) → part_of (scope_of world f e) n ≡ Some (node Store ts) → is_done e (place n Val) ≡ true
    → items_by trace trace f.path f.turn (place n Val) ≡ []

abbrev pub IsBareIn : World → List Entry → Scene → Option Begun → Type 0
IsBareIn world trace f None = Unit {0}
IsBareIn world trace f (Some e) = (n : ℕ) → IsBareStore world trace f e n

abbrev pub AllHeldBare : World → List Entry → List (Local × Place) → Type 0
AllHeldBare world trace [] = Unit {0}
AllHeldBare world trace (h ∷ hs) = IsBareIn world trace h.0.scene h.0.begun × AllHeldBare world trace hs

-- in each full expression that is open
pub record AreBare (world : World) (st : State) : Type 0 where
  pub top : IsBareIn world st.trace st.top.scene st.top.begun
  pub held : AllHeldBare world st.trace st.held

-- each canonical pick leaves it so
abbrev pub PicksStayBare : Type 0
PicksStayBare = (world : World) (st next : State) → AreFree world st → AreBare world st
    → step world st (canonical_pick world st.top st.top.begun) ≡ Running next → AreBare world next
