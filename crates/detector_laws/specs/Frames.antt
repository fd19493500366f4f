-- How the open frames of a run go on with each canonical pick, where nothing was found in them so far (own).
use Rattle.std.specs.Prelude.{◌≡◌, ◌≤◌, suc, true, List, [], ◌∷◌, ◌++◌, Option, Some, None}
use Rattle.ub_base.specs.Frames.{Path}
use Rattle.ub_base.specs.declared.clause.Kind.TheVariants.{Val, Body}
use Rattle.c_typed.specs.declared.class.Class.TheVariants.{Store}
use Rattle.c_typed.specs.declared.tree.Place.{Place}
use Rattle.c_typed.specs.Tree.{Trees, node}
use Rattle.c_model.specs.Program.{tree_of}
use Rattle.c_model.specs.Runs.{Entry, Running, State, canonical_pick, step}
use Rattle.c_model.specs.Steps.{Begun, Local, Scene, taken_by, with_given}
use Rattle.c_model.specs.Values.{Value}
use Rattle.c_model.specs.World.{World}
use Rattle.elaborate.specs.Formed.{is_formed}
use Rattle.listing_laws.specs.Along.{StandsAlong}
use Rattle.run_evaluations.specs.Scopes.{part_of}
use Rattle.telling_laws.specs.Newly.{IsTaken}
use Rattle.telling_laws.specs.OnlyNew.{AreAround}
use Rattle.telling_laws.specs.Standing.{Chooses}
use Rattle.detector_laws.specs.Looked.{IsFree, IsFreeIn, looked_at, scope_of}

-- ---- the frames of a state
-- A full expression stands along its listing with these events done, nothing was found in it, and nodes have the operands that their operators take.
pub record StandsFree (world : World) (trace : List Entry) (f : Scene) (e : Begun) (passed ahead : List Place) : Type 0 where
  pub formed : is_formed (tree_of e.root) ≡ true
  pub along : StandsAlong world f e None passed ahead
  pub free : IsFree world.rows (looked_at world trace f e)

abbrev pub TopStands : World → List Entry → Scene → Option Begun → Type 0
TopStands world trace f None = Unit {0}
TopStands world trace f (Some e) = (passed : List Place) × (ahead : List Place) × StandsFree world trace f e passed ahead

-- a frame that is held waits for the body of this event, which comes next in its full expression
pub record WaitsFree (world : World) (trace : List Entry) (f : Local) (u : Place) : Type 0 where
  pub expression : Begun
  pub is : f.begun ≡ Some expression
  pub body : u.kind ≡ Body
  pub passed : List Place
  pub ahead : List Place
  pub stands : StandsFree world trace f.scene expression passed (u ∷ ahead)

-- each frame was started by the body for which the one below it waits
abbrev pub AllWaitFree : World → List Entry → Path → List (Local × Place) → Type 0
AllWaitFree world trace path [] = Unit {0}
AllWaitFree world trace path (h ∷ hs) =
    (path ≡ (h.0.scene.turn, h.1.node) ∷ h.0.scene.path) × WaitsFree world trace h.0 h.1 × AllWaitFree world trace h.0.scene.path hs

-- nothing was found in any full expression that is open
pub record AreFree (world : World) (st : State) : Type 0 where
  pub top : TopStands world st.trace st.top.scene st.top.begun
  pub held : AllWaitFree world st.trace st.top.scene.path st.held

-- ---- a pick
-- An event of a full expression is done with it, in this frame: the next one that was listed. It is as before but for that, and the items of what was done
-- are those that it had.
pub record TakesEvent (world : World) (trace later : List Entry) (f : Scene) (e : Begun) (u : Place) (top : Local) : Type 0 where
  pub value : Value
  pub scene : top.scene ≡ f
  pub begun : top.begun ≡ Some (with_given e u value)
  pub passed : List Place
  pub ahead : List Place
  pub further : List Place
  pub before : StandsFree world trace f e passed (u ∷ ahead)
  pub along : StandsAlong world f (with_given e u value) None (passed ++ u ∷ []) further
  pub chooses : Chooses (taken_by world f e) (taken_by world f (with_given e u value)) u
  pub taken : IsTaken (scope_of world f (with_given e u value)) (taken_by world f e) passed u ahead further
  pub around : AreAround (scope_of world f (with_given e u value)) (taken_by world f e) passed u (looked_at world trace f e)
      (looked_at world later f (with_given e u value))

-- the newest entry of the trace is that of the event, which is of this frame
pub record IsEntryOf (f : Scene) (u : Place) (x : Entry) : Type 0 where
  pub path : x.path ≡ f.path
  pub turn : x.turn ≡ f.turn
  pub place : x.place ≡ Some u

-- the value of an assignment or a list touches nothing (6.5.16p3, 6.7.9p23)
abbrev pub IsBareValue : World → Scene → Begun → Place → Entry → Type 0
IsBareValue world f e u x = u.kind ≡ Val → (ts : Trees) → part_of (scope_of world f e) u.node ≡ Some (node Store ts) → x.items ≡ []

-- What a canonical pick comes to that goes on: no full expression is open in the frame; one begins; an event of it is done; it starts a frame; or a frame ends,
-- with which the body is done that started it.
pub data ComesTo (world : World) (st next : State) : Type 0 where
  rests : next.top.begun ≡ None → next.top.scene.path ≡ st.top.scene.path → st.top.scene.turn ≤ next.top.scene.turn → next.held ≡ st.held
      → ComesTo world st next
  begins : (e : Begun) → next.top.begun ≡ Some e → ((u : Place) → e.given u ≡ None) → next.top.scene.path ≡ st.top.scene.path
      → next.top.scene.turn ≡ suc st.top.scene.turn → next.held ≡ st.held → ComesTo world st next
  takes : (e : Begun) (u : Place) (x : Entry) → st.top.begun ≡ Some e → TakesEvent world st.trace next.trace st.top.scene e u next.top
      → next.trace ≡ x ∷ st.trace → IsEntryOf st.top.scene u x → IsBareValue world st.top.scene e u x → next.held ≡ st.held → ComesTo world st next
  starts : (u : Place) (x : Entry) → next.top.begun ≡ None → next.top.scene.path ≡ (st.top.scene.turn, u.node) ∷ st.top.scene.path
      → next.trace ≡ x ∷ st.trace → IsEntryOf st.top.scene u x → next.held ≡ (st.top, u) ∷ st.held → ComesTo world st next
  ends : (h : Local × Place) (e : Begun) → h.0.begun ≡ Some e → h.1.kind ≡ Body → TakesEvent world st.trace next.trace h.0.scene e h.1 next.top
      → st.held ≡ h ∷ next.held → ComesTo world st next

-- the trace has one entry more, of the frame that was on top
pub record HasEntry (st next : State) : Type 0 where
  pub entry : Entry
  pub newest : next.trace ≡ entry ∷ st.trace
  pub path : entry.path ≡ st.top.scene.path

-- each canonical pick does, and nothing is found by it in the frames that are held
abbrev pub PicksComeTo : Type 0
PicksComeTo = (world : World) (st next : State) → AreFree world st → step world st (canonical_pick world st.top st.top.begun) ≡ Running next
    → ComesTo world st next × HasEntry st next × AllWaitFree world next.trace next.top.scene.path next.held

-- ---- along the canonical order
-- the full expression that is open has nodes with the operands that their operators take
abbrev pub IsFormedIn : Option Begun → Type 0
IsFormedIn None = Unit {0}
IsFormedIn (Some e) = is_formed (tree_of e.root) ≡ true

-- so nothing was found where nothing is found in the top frame
abbrev pub PicksLeaveFree : Type 0
PicksLeaveFree = (world : World) (st next : State) → AreFree world st → step world st (canonical_pick world st.top st.top.begun) ≡ Running next
    → IsFormedIn next.top.begun → IsFreeIn world next.trace next.top.scene next.top.begun → AreFree world next

-- as a full expression begins nothing is
abbrev pub BeginsFree : Type 0
BeginsFree = (world : World) (trace : List Entry) (f : Scene) (e : Begun) → is_formed (tree_of e.root) ≡ true → ((u : Place) → e.given u ≡ None)
    → IsFree world.rows (looked_at world trace f e)

-- a frame that ends completes nothing, so nothing is found with it
abbrev pub EndsFree : Type 0
EndsFree = (world : World) (trace later : List Entry) (f : Scene) (e : Begun) (u : Place) (top : Local) → u.kind ≡ Body
    → (took : TakesEvent world trace later f e u top) → IsFree world.rows (looked_at world later f (with_given e u took.value))
