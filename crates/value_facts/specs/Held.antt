-- All values that a state of a run holds are small, and each state of a run of a program with small constants is so (own).
use Rattle.std.specs.Prelude.{◌≡◌, ◌≤◌, ◌<◌, ◌^◌, ℕ, List, [], ◌∷◌, Some}
use Rattle.std.specs.List.{All}
use Rattle.ub_base.specs.declared.names.Event.{Event}
use Rattle.ub_base.specs.declared.names.Item.{Item}
use Rattle.c_types.specs.declared.library.LibFunc.{LibFunc}
use Rattle.c_types.specs.Types.{CType}
use Rattle.c_typed.specs.declared.tree.Place.{Place}
use Rattle.mem_spec.specs.Script.{Done, run}
use Rattle.mem_spec.specs.Store.{Store}
use Rattle.mem_spec.specs.Streams.{total}
use Rattle.c_model.specs.Libraries.{library}
use Rattle.c_model.specs.Program.{Expr}
use Rattle.c_model.specs.Runs.{State, Running, After, step, start, canonical_after}
use Rattle.c_model.specs.Steps.{Begun, Local, Pick}
use Rattle.c_model.specs.Values.{Value, Whole}
use Rattle.c_model.specs.World.{World}
use Rattle.value_facts.specs.Small.{EndInTime, HasSmallBytes, IsSmall, ListsAreSmall}
use Rattle.value_facts.specs.Constants.{EachBehind, EachLeft, HasSmallConstants, IsSmallExpr}

-- 1. The world.

-- the bytes of standard input
abbrev pub AreBytes : List ℕ → Type 0
AreBytes = All (λ n. n < 256)

-- no structure or union
abbrev pub IsScalar : Value → Type 0
IsScalar (Whole bs source) = ⊥
IsScalar v = Unit {0}

-- From small arguments, in a store with small bytes, a call of the library gives a small value, no structure or union, where it doesn't pass the limit on
-- the output, and leaves small bytes.
abbrev pub LibraryGivesSmall : World → Type 0
LibraryGivesSmall world =
    (f : LibFunc) (who : Event) (ts : List CType) (vs : List Value) (s u : Store) (v : Value) (is : List Item) → All IsSmall vs → HasSmallBytes s
    → AreBytes s.input → run world.rows (world.library f who ts vs) s ≡ Done v is u → total u.output ≤ world.limits.output
    → IsSmall v × IsScalar v × HasSmallBytes u

-- the library of c_model does so, where the limit on the output is below 2^64
abbrev pub LibraryIsSmall : Type 0
LibraryIsSmall = (world : World) → world.library ≡ library world.rows → EndInTime world.rows → world.limits.output < 2 ^ 64 → LibraryGivesSmall world

pub record KeepsSmall (world : World) : Type 0 where
  pub constants : HasSmallConstants world.program
  pub rows : EndInTime world.rows
  pub library : LibraryGivesSmall world

-- 2. The state.

module _ (V : Value → Type 0) where
  -- a full expression that has begun: its constants are small, and what its events gave is so
  pub record IsBegunOf (e : Begun) : Type 0 where
    pub root : IsSmallExpr e.root
    pub what : EachBehind IsSmallExpr e.what
    pub given : (u : Place) (v : Value) → e.given u ≡ Some v → V v

  -- a frame: what is left to do in it, the full expression that has begun, its arguments and its result
  pub record IsFrameOf (f : Local) : Type 0 where
    pub todo : EachLeft IsSmallExpr f.todo
    pub begun : (e : Begun) → f.begun ≡ Some e → IsBegunOf e
    pub arguments : All V f.arguments
    pub result : (v : Value) → f.result ≡ Some v → V v

  abbrev pub AreFramesOf : List (Local × Place) → Type 0
  AreFramesOf [] = Unit {0}
  AreFramesOf (h ∷ hs) = IsFrameOf h.0 × AreFramesOf hs

  -- all values in the frames are so, and the bytes in the store are small
  pub record HoldsOnly (st : State) : Type 0 where
    pub top : IsFrameOf st.top
    pub held : AreFramesOf st.held
    pub bytes : HasSmallBytes st.store
    pub input : AreBytes st.store.input

abbrev pub HasSmallValues : State → Type 0
HasSmallValues = HoldsOnly IsSmall

-- so each list of a full expression that has begun is small
abbrev pub SmallHasLists : Type 0
SmallHasLists = (e : Expr) → IsSmallExpr e → ListsAreSmall e

-- 3. Runs.

abbrev pub StartsSmall : Type 0
StartsSmall = (world : World) (input : List ℕ) (vs : List Value) (st : State) → KeepsSmall world → AreBytes input → All IsSmall vs
    → start world input vs ≡ Running st → HasSmallValues st

-- each pick keeps it so, whether or not it is permitted
abbrev pub StepsSmall : Type 0
StepsSmall = (world : World) (st after : State) (p : Pick) → KeepsSmall world → HasSmallValues st → step world st p ≡ Running after → HasSmallValues after

-- and so does each order of picks, and the canonical one
abbrev pub OrdersSmall : Type 0
OrdersSmall = (world : World) (st after : State) (ps : List Pick) → KeepsSmall world → HasSmallValues st → After world st ps (Running after)
    → HasSmallValues after

abbrev pub CanonicalSmall : Type 0
CanonicalSmall = (world : World) (n : ℕ) (st after : State) → KeepsSmall world → HasSmallValues st → canonical_after world n st ≡ Running after
    → HasSmallValues after
