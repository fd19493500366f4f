-- No order holds a race in a full expression whose accesses are all apart.
use Rattle.std.specs.Prelude.{◌≡◌, ◌⊎◌, ℕ, ◌^◌, ◌<◌, Bool, true, false, List, [], ◌∷◌, ◌++◌, Some, None}
use Rattle.std.specs.List.{list_all}
use Rattle.ub_base.specs.declared.names.Frame.{Frame}
use Rattle.ub_base.specs.declared.names.ObjName.TheVariants.{Auto}
use Rattle.addr_map.specs.declared.map.Row.{Row}
use Rattle.addr_map.specs.Rows.{is_lawful, row_of}
use Rattle.c_typed.specs.declared.tree.Place.{Place}
use Rattle.c_typed.specs.declared.tree.Typed.{Typed}
use Rattle.c_typed.specs.declared.program.Program.{Program}
use Rattle.c_typed.specs.Tree.{tree_of, size}
use Rattle.static_places.specs.Preorder.{nodes_of}
use Rattle.static_seq.specs.declared.accesses.MemoryAccess.{MemoryAccess}
use Rattle.static_seq.specs.Parted.{both_read, sequenced, branched, accesses}
use Rattle.c_model.specs.World.{World}
use Rattle.c_model.specs.Values.{Value}
use Rattle.c_model.specs.Steps.{Begun, Pick, Ev}
use Rattle.c_model.specs.Runs.{Entry, State, Outcome, Running, trace_of}
use Rattle.c_model.specs.Findings.{Race}
use Rattle.c_model.specs.Claims.{ComesTo}
use Rattle.value_laws.specs.Sizes.{Sizes, ProgramFits}
use Rattle.program_view.specs.Trees.{expr_of}
use Rattle.static_laws.specs.Low.{all_low}
use Rattle.static_laws.specs.Apart.{other_objects, other_bytes, never_races, all_branch}

-- The rows keep the rules of a row, and none is of an automatic object of turn 0: no block is entered before turn 1.
pub record AreRows (rows : List Row) : Type 0 where
  pub lawful : list_all is_lawful rows ≡ true
  pub none_at_0 : (frame : Frame) (decl : ℕ) → row_of rows (Auto frame 0 decl) ≡ None

-- the order picks this event where this full expression runs, and the pick is the entry's
pub record PickedIn (world : World) (input : List ℕ) (vs : List Value) (ps : List Pick) (d : Entry) (u : Place) : Type 0 where
  pub before : List Pick
  pub after : List Pick
  pub split : ps ≡ before ++ Ev u ∷ after
  pub state : State
  pub comes : ComesTo world input vs before (Running state)
  pub begun : Begun
  pub runs : state.top.begun ≡ Some begun
  pub of_frame : d.path ≡ state.top.scene.path
  pub of_turn : d.turn ≡ state.top.scene.turn

-- an access of a list
abbrev pub IsAmong : List MemoryAccess → MemoryAccess → Type 0
IsAmong [] a = ⊥
IsAmong (b ∷ bs) a = (b ≡ a) ⊎ IsAmong bs a

-- two accesses of the full expression, at the two places in either order
pub record AccessesAt (p : Program) (function : ℕ) (root : Typed) (u v : Place) : Type 0 where
  pub first : MemoryAccess
  pub second : MemoryAccess
  pub has_first : IsAmong (accesses p function root) first
  pub has_second : IsAmong (accesses p function root) second
  pub at : ((first.at.place ≡ u) × (second.at.place ≡ v)) ⊎ ((first.at.place ≡ v) × (second.at.place ≡ u))

-- a u32 numbers its nodes, each `?:` has two branches, and its fixed places are low, as in each lawful program
pub record IsUsual (p : Program) (function : ℕ) (root : Typed) : Type 0 where
  pub count : size (tree_of root) < 2 ^ 32
  pub branches : all_branch (nodes_of root) ≡ true
  pub low : all_low p function (nodes_of root) ≡ true

-- Wherever an order holds a race, its newer event was picked where a full expression runs of which this doesn't hold for its two places: of
-- whatever typed tree it is the model's expression, and whatever program and function its places are looked up in.
abbrev pub RacesOnlyWithout : (Program → ℕ → Typed → Place → Place → Type 0) → Type 0
RacesOnlyWithout Holds =
    (world : World) (input : List ℕ) (vs : List Value) (ps : List Pick) (o : Outcome) → AreRows world.rows → ComesTo world input vs ps o
    → (d e : Entry) (u v : Place) → Race world (trace_of o) d u e v
    → (picked : PickedIn world input vs ps d u)
    × ((p : Program) (function : ℕ) (root : Typed) → picked.begun.root ≡ expr_of root → IsUsual p function root → Holds p function root u v → ⊥)

-- the program keeps the sizes of its types
abbrev pub KeepsSizes : World → Type 0
KeepsSizes world = (size : Sizes) × ProgramFits size world

-- the same of the programs that do
abbrev pub SizedRacesOnlyWithout : (Program → ℕ → Typed → Place → Place → Type 0) → Type 0
SizedRacesOnlyWithout Holds =
    (world : World) (input : List ℕ) (vs : List Value) (ps : List Pick) (o : Outcome) → KeepsSizes world → AreRows world.rows
    → ComesTo world input vs ps o → (d e : Entry) (u v : Place) → Race world (trace_of o) d u e v
    → (picked : PickedIn world input vs ps d u)
    × ((p : Program) (function : ℕ) (root : Typed) → picked.begun.root ≡ expr_of root → IsUsual p function root → Holds p function root u v → ⊥)

-- two accesses at the places that pass a test
pub record AccessesBy (test : Typed → MemoryAccess → MemoryAccess → Bool) (p : Program) (function : ℕ) (root : Typed) (u v : Place) : Type 0 where
  pub two : AccessesAt p function root u v
  pub holds : test root two.first two.second ≡ true

-- 1. Two reads never race.
abbrev pub ReadsNeverRace : Type 0
ReadsNeverRace = RacesOnlyWithout (AccessesBy (λ root a b. both_read a b))

-- 2. Nor do two accesses of which one is sequenced before the other under the choice that spares what it can: it is under every choice.
abbrev pub SequencedNeverRace : Type 0
SequencedNeverRace = RacesOnlyWithout (AccessesBy sequenced)

-- 3. Nor do two in the two branches of one `?:`.
abbrev pub BranchesNeverRace : Type 0
BranchesNeverRace = RacesOnlyWithout (AccessesBy branched)

-- 4. Nor do two at fixed places of two objects,
abbrev pub ObjectsNeverRace : Type 0
ObjectsNeverRace = RacesOnlyWithout (AccessesBy (λ root a b. other_objects a b))

-- or of one object whose bytes don't overlap, where neither stores a whole structure or union.
abbrev pub BytesNeverRace : Type 0
BytesNeverRace = RacesOnlyWithout (AccessesBy (other_bytes false))

-- or, in a program that keeps the sizes of its types, whether or not one of them does.
abbrev pub WholesNeverRace : Type 0
WholesNeverRace = SizedRacesOnlyWithout (AccessesBy (other_bytes true))

-- And nothing but two accesses races,
abbrev pub OnlyAccessesRace : Type 0
OnlyAccessesRace = RacesOnlyWithout (λ p function root u v. AccessesAt p function root u v → ⊥)

-- so a full expression whose accesses are all apart by these cases never races.
abbrev pub NeverRaces : Type 0
NeverRaces = RacesOnlyWithout (λ p function root u v. never_races false p function root ≡ true)

abbrev pub SizedNeverRaces : Type 0
SizedNeverRaces = SizedRacesOnlyWithout (λ p function root u v. never_races true p function root ≡ true)
