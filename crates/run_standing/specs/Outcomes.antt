-- What the start of a run comes to: its objects stand, or one of them has no place (own).
use Rattle.std.specs.Prelude.{◌≡◌, ℕ, ◌+◌, ◌*◌, ◌<◌, ◌≤◌, ◌^◌, true, ◌⊎◌, List, [], ◌∷◌, ◌++◌, is_some, length, map, take, slice_get}
use Rattle.std.specs.Prelude.{Option, Some, Result, Ok, Err}
use Rattle.ub_base.specs.declared.names.ObjName.{ObjName}
use Rattle.ub_base.specs.declared.names.ObjName.TheVariants as names
use Rattle.addr_map.specs.declared.map.Row.{Row}
use Rattle.addr_map.specs.Rows.{row_of}
use Rattle.c_types.specs.declared.tags.Extent.{Extent}
use Rattle.c_types.specs.declared.tags.Tag.{Tag}
use Rattle.c_types.specs.Types.{qualified_of}
use Rattle.c_typed.specs.Lawful.{IsLawful}
use Rattle.c_typed.specs.declared.program.Program.{Program}
use Rattle.c_typed.specs.declared.program.Static.{Static}
use Rattle.mem_spec.specs.Acts.{has_place}
use Rattle.mem_spec.specs.Script.{Act, Done, Unplaced, run}
use Rattle.mem_spec.specs.Store.{Life, Store, is_live}
use Rattle.mem_objects.specs.declared.answer.CreateFault.{CreateFault}
use Rattle.mem_objects.specs.declared.answer.CreateFault.TheVariants as faults
use Rattle.mem_objects.specs.Held.{held_of}
use Rattle.mem_objects.specs.Keeps.{Keeps}
use Rattle.mem_objects.specs.Memory.{Kept, life_in, cannot_create}
use Rattle.mem_objects.specs.Room.{IsClose}
use Rattle.c_model.specs.Program.{Standing}
use Rattle.c_model.specs.Runs.{created_after, stand}
use Rattle.c_model.specs.World.{World}
use Rattle.run_standing.specs.Standing.{AllCreated, AreStatics, Stand, StaticsCreated, arguments, literals, takes_arguments}
use Rattle.run_objects.specs.Extents.{extent_of}

-- ---- the definitions

-- the act gives its value, or it creates an object that has no place: it raises no clause, ends no run and passes no limit
abbrev pub IsDoneOrUnplaced : {V : Type 0} → Act V → Type 0
IsDoneOrUnplaced (Done v is s) = Unit {0}
IsDoneOrUnplaced Unplaced = Unit {0}
IsDoneOrUnplaced _ = ⊥

-- no row begins at 0, and none ends behind 2^47
abbrev pub AreAddresses : List Row → Type 0
AreAddresses rows = (x : ObjName) (r : Row) → row_of rows x ≡ Some r → (0 < r.base) × (r.base + r.size ≤ 2 ^ 47)

-- what the definitions do before the first pick of a lawful program gives the objects that stand before it, or one of them has no place
abbrev pub StartIsDefined : Type 0
StartIsDefined = (world : World) (p : Program) (args : List (List ℕ)) (os : List Standing) (s : Store) → IsLawful p → Stand p args os →
    AreAddresses world.rows → IsDoneOrUnplaced (run world.rows (stand world os) s)

-- ---- objects that are there to be filled

-- the object lives, and its row has its size and alignment
pub record IsThere (rows : List Row) (life : ObjName → Option Life) (o : Standing) : Type 0 where
  pub live : is_live (life o.name) ≡ true
  pub placed : has_place (row_of rows o.name) o.decl.size o.decl.align ≡ true

abbrev pub AreThere : List Row → (ObjName → Option Life) → List Standing → Type 0
AreThere rows life [] = Unit {0}
AreThere rows life (o ∷ os) = IsThere rows life o × AreThere rows life os

-- the lives of the objects of a memory
abbrev pub lives_of : Kept → ObjName → Option Life
lives_of m x = life_in (held_of m.objects x)

-- the same of the objects of a memory
abbrev pub Waits : Kept → Standing → Type 0
Waits m o = IsThere m.rows (lives_of m) o

abbrev pub WaitAll : Kept → List Standing → Type 0
WaitAll m os = AreThere m.rows (lives_of m) os

-- the object lives, and its row begins at this address, not at 0, and has so many bytes at least
pub record IsReady (m : Kept) (x : ObjName) (base size : ℕ) : Type 0 where
  pub row : Row
  pub named : row_of m.rows x ≡ Some row
  pub at : row.base ≡ base
  pub begins : 0 < row.base
  pub sized : size ≤ row.size
  pub ends : row.base + row.size ≤ 2 ^ 47
  pub live : is_live (lives_of m x) ≡ true

-- objects live on
abbrev pub LivesStay : Kept → Kept → Type 0
LivesStay old new = (x : ObjName) → lives_of new x ≡ lives_of old x

-- an initialization left all objects alive, or there was want of memory: it raised no clause
abbrev pub IsFilled : Kept → Kept → Result (Unit {0}) CreateFault → Type 0
IsFilled old new (Ok u) = LivesStay old new
IsFilled old new (Err faults.NoMemory) = Unit {0}
IsFilled old new (Err faults.Unplaced) = ⊥

-- ---- objects without a place

-- an object of this extent can't be created
abbrev pub CannotStand : Kept → ObjName → Extent → Type 0
CannotStand m x e = cannot_create m x e.size e.align ≡ true

-- so many objects with static storage were created, and then these others
abbrev pub StandSoFar : Kept → Kept → List Tag → List Static → List Standing → Type 0
StandSoFar old new tags ss more = (os : List Standing) × AreStatics tags 0 ss os × AllCreated old new (os ++ more)

-- the ones before one of them were created, and it can't be
abbrev pub SomeStatic : Kept → Kept → List Tag → List Static → Type 0
SomeStatic old new tags ss =
    (k : ℕ) × (s : Static) × (slice_get ss k ≡ Some s) × StaticsCreated old new tags (take k ss)
    × CannotStand new (names.Static k) (extent_of tags (qualified_of s.qual).ty)

-- .. an array of so many characters
abbrev pub CannotHold : Kept → ObjName → ℕ → Type 0
CannotHold m x n = CannotStand m x (record { size = n; align = 1 })

abbrev pub FirstLiteral : Kept → Kept → List (List ℕ) → Type 0
FirstLiteral old new texts =
    (k : ℕ) × (bs : List ℕ) × (slice_get texts k ≡ Some bs) × AllCreated old new (take k (literals 0 texts)) × CannotHold new (names.Lit k) (length bs)

-- .. behind all objects with static storage
abbrev pub SomeLiteral : Kept → Kept → Program → Type 0
SomeLiteral old new p =
    (k : ℕ) × (bs : List ℕ) × (slice_get p.literals k ≡ Some bs) × StandSoFar old new p.tags p.statics (take k (literals 0 p.literals))
    × CannotHold new (names.Lit k) (length bs)

-- each argument has a zero behind it
abbrev pub FirstArgument : Kept → Kept → List (List ℕ) → Type 0
FirstArgument old new words =
    (k : ℕ) × (bs : List ℕ) × (slice_get words k ≡ Some bs) × AllCreated old new (take k (arguments 0 words)) × CannotHold new (names.Arg k) (length bs + 1)

-- .. behind all string literals
abbrev pub SomeArgument : Kept → Kept → Program → List (List ℕ) → Type 0
SomeArgument old new p words =
    (k : ℕ) × (bs : List ℕ) × (slice_get words k ≡ Some bs)
    × StandSoFar old new p.tags p.statics (literals 0 p.literals ++ take k (arguments 0 words)) × CannotHold new (names.Arg k) (length bs + 1)

-- .. the array of pointers to so many arguments
abbrev pub NoVector : Kept → ℕ → Type 0
NoVector m n = CannotStand m names.Argv (record { size = 8 * (n + 1); align = 8 })

abbrev pub VectorRefused : Kept → Kept → Program → List (List ℕ) → Type 0
VectorRefused old new p words = StandSoFar old new p.tags p.statics (literals 0 p.literals ++ arguments 0 words) × NoVector new (length words)

-- of the objects that stand before a run the first ones were created, and the next one can't be in the memory that is left,
-- by the arguments with the program's name before them
abbrev pub HasNoPlace : Kept → Kept → Program → List (List ℕ) → Type 0
HasNoPlace old new p words =
    SomeStatic old new p.tags p.statics ⊎ (SomeLiteral old new p
    ⊎ ((takes_arguments (slice_get p.functions p.main) ≡ true) × (SomeArgument old new p words ⊎ VectorRefused old new p words)))

-- a memory in which nothing was created yet, and which places each new object
pub record IsNew (m : Kept) : Type 0 where
  pub close : IsClose m
  pub none : m.objects ≡ []
  pub counts : m.created ≡ 0
  pub mode : is_some m.mode ≡ true

-- so each of the objects has its place there, as long as they count within 2^40 bytes together
abbrev pub FindsRoom : Type 0
FindsRoom =
    (old new : Kept) (p : Program) (words : List (List ℕ)) (os : List Standing) → IsNew old → Keeps old new → IsLawful p → Stand p words os →
    created_after 0 (map (λ o. o.decl) os) ≤ 2 ^ 40 → HasNoPlace old new p words → ⊥
