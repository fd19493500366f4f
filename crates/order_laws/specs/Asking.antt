-- Scripts that ask whether an object lives before they read or write it, and create objects as their rows say.
use Rattle.std.specs.Prelude.{◌≡◌, true, List, ◌∷◌, length, ◌⊎◌, ℕ}
use Rattle.ub_base.specs.declared.names.Event.{Event}
use Rattle.ub_base.specs.declared.names.Item.{Item}
use Rattle.ub_base.specs.declared.names.Item.TheVariants.{Read, Write, Born}
use Rattle.addr_map.specs.declared.map.Row.{Row}
use Rattle.addr_map.specs.Rows.{row_of}
use Rattle.c_types.specs.declared.library.LibFunc.{LibFunc}
use Rattle.c_types.specs.Types.{CType}
use Rattle.mem_spec.specs.Store.{TaggedByte, Store}
use Rattle.mem_spec.specs.Script.{Get, Put, Bear, item_of, Answer, Script, Give, Finish, Do, Done, run}
use Rattle.mem_spec.specs.Acts.{size_in}
use Rattle.mem_laws.specs.Frame.{any_of}
use Rattle.c_model.specs.World.{World}
use Rattle.c_model.specs.Values.{Value}
use Rattle.c_model.specs.Steps.{Local, Pick, does}
use Rattle.order_laws.specs.StrictItems.{asks, backed}
use Rattle.order_laws.specs.StoreParts.{counted_after}

-- A script that reads and writes only what it has asked for, behind these items, and creates objects of the size of their rows; where it
-- gives a value it leaves this so. It doesn't end the run.
abbrev pub Post : {V : Type 0} → List Row → Script V → List Item → (V → List Item → Type 0) → Type 0
Post rows (Do (Get x a n) k) bs Q = (any_of (λ j. asks j x) bs ≡ true) × ((r : List TaggedByte) → Post rows (k r) (Read x a n ∷ bs) Q)
Post rows (Do (Put x a cs) k) bs Q = (any_of (λ j. asks j x) bs ≡ true) × ((r : Unit {0}) → Post rows (k r) (Write x a (length cs) ∷ bs) Q)
Post rows (Do (Bear x size kind declared) k) bs Q = (size ≡ size_in (row_of rows x)) × ((r : Unit {0}) → Post rows (k r) (Born x ∷ bs) Q)
Post rows (Do t k) bs Q = (r : Answer t) → Post rows (k r) (item_of t ∷ bs) Q
Post rows (Give v) bs Q = Q v bs
Post rows (Finish n) bs Q = ⊥
Post rows _ bs Q = Unit {0}

abbrev pub Anything : {V : Type 0} → V → List Item → Type 0
Anything v bs = Unit {0}

-- behind any items that came before
abbrev pub Asked : {V : Type 0} → List Row → Script V → List Item → Type 0
Asked rows x bs = Post rows x bs Anything

-- or it does nothing but end the run
abbrev pub AskedOrEnds : {V : Type 0} → List Row → Script V → List Item → Type 0
AskedOrEnds rows x bs = Asked rows x bs ⊎ ((n : ℕ) × (x ≡ Finish n))

abbrev pub LibraryAsked : World → Type 0
LibraryAsked world = (g : LibFunc) (who : Event) (ts : List CType) (vs : List Value) (bs : List Item) → AskedOrEnds world.rows (world.library g who ts vs) bs

-- acts ask for the life of what they access
abbrev pub ActsAsk : World → Type 0
ActsAsk world =
    (f : Local) (p : Pick) (s : Store) (v : Value) (is : List Item) (s1 : Store) → run world.rows (does world f f.begun p) s ≡ Done v is s1
    → backed is ≡ true

-- what acts create is what their births count
abbrev pub ActsCount : World → Type 0
ActsCount world =
    (f : Local) (p : Pick) (s : Store) (v : Value) (is : List Item) (s1 : Store) → run world.rows (does world f f.begun p) s ≡ Done v is s1
    → s1.created ≡ counted_after world.rows is s.created

-- Where the library's scripts do so, each act of a program has backed items, and what it creates is what its births count.
abbrev pub ProgramActsAsk : Type 0
ProgramActsAsk =
    (world : World) → LibraryAsked world → ActsAsk world × ActsCount world
