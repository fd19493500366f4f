-- Blocks are entered (6.2.4p6, 6.8p3): their objects are created one after the other.
use Rattle.std.specs.Prelude.{
  ◌≡◌,
  ◌≢◌,
  ℕ,
  zero,
  suc,
  ◌+◌,
  ◌-◌,
  ◌<◌,
  ◌≤◌,
  ◌^◌,
  min,
  Bool,
  true,
  List,
  [],
  ◌∷◌,
  ◌++◌,
  length,
  map,
  reverse,
  slice_get,
  Option,
  Some,
  None,
  is_some,
  option_map,
  Result,
  Ok,
  Err,
}
use Rattle.addr_map.specs.Rows.{row_at, row_of}
use Rattle.ub_base.specs.declared.clause.Cause.TheVariants.{Created}
use Rattle.ub_base.specs.declared.names.Item.{Item}
use Rattle.ub_base.specs.declared.names.Item.TheVariants.{Born}
use Rattle.ub_base.specs.declared.names.ObjName.{ObjName}
use Rattle.ub_base.specs.declared.names.ObjName.TheVariants.{Auto}
use Rattle.exposure.specs.declared.prov.Prov.TheVariants.{Whole}
use Rattle.c_types.specs.Shapes.{Form, form_of}
use Rattle.c_types.specs.Types.{type_of}
use Rattle.mem_spec.specs.Store.{Store, born}
use Rattle.mem_spec.specs.Streams.{Io}
use Rattle.mem_objects.specs.Keeps.{Keeps}
use Rattle.mem_objects.specs.Made.{IsMade}
use Rattle.mem_objects.specs.Memory.{IsBorn, cannot_create, store_of}
use Rattle.mem_objects.specs.Sound.{IsSound}
use Rattle.c_typed.specs.declared.tree.Place.{Place}
use Rattle.c_model.specs.Control.{Todo, Enter}
use Rattle.c_model.specs.Program.{Decl}
use Rattle.c_model.specs.Runs.{State, created_after}
use Rattle.c_model.specs.Steps.{Local, auto_name, object_kind}
use Rattle.c_model.specs.Values.{Value}
use Rattle.c_model.specs.World.{World}
use Rattle.run_layout.specs.declared.steps.BlockCode.{BlockCode}
use Rattle.run_layout.specs.declared.steps.ObjectCode.{ObjectCode}
use Rattle.run_layout.specs.declared.steps.StoreCode.{StoreCode}
use Rattle.run_layout.specs.declared.whole.Code.{Code}
use Rattle.run_layout.specs.InRange.{part_of}
use Rattle.run_state.specs.declared.halt.Halt.{Halt}
use Rattle.run_state.specs.declared.halt.Halt.TheVariants as halt
use Rattle.run_state.specs.declared.machine.Machine.{Machine}
use Rattle.run_state.specs.declared.machine.Open.{Open}
use Rattle.run_answers.specs.Ending.{KeepToRooms}
use Rattle.run_answers.specs.Passing.{PassesAll, RowsAreLawful, TakesValue, with_arguments}

-- 1. What the code does.

-- what an object is created with
pub record Birth : Type 0 where
  pub size : ℕ
  pub align : ℕ
  pub constant : Bool
  pub form : Option Form

abbrev pub birth_of : ObjectCode → Birth
birth_of o = record { size = o.size; align = o.align; constant = o.constant; form = option_map (λ s. form_of s.value) o.shape }

abbrev pub birth_in : Decl → Birth
birth_in d = record { size = d.size; align = d.align; constant = d.constant; form = d.form }

-- the object of this number of a block that the top frame enters
abbrev pub new_name : Machine → ℕ → ObjName
new_name m k = Auto m.top.frame m.top.turn k

abbrev pub born_by : Store → ObjName → Option Birth → Store
born_by s x None = s
born_by s x (Some b) = born s x b.size (object_kind b.constant) b.form

-- the first so many of these objects are created
abbrev pub born_first : (ℕ → ObjName) → List Birth → ℕ → Store → Store
born_first x bs zero s = s
born_first x bs (suc n) s = born_by (born_first x bs n s) (x n) (slice_get bs n)

abbrev pub births : (ℕ → ObjName) → ℕ → List Item
births x zero = []
births x (suc n) = births x n ++ (Born (x n) ∷ [])

-- One object was created at its row, and stands among the objects of the top frame, where its number is below 2^32 and its place below 2^64.
pub record IsOneNew (old : Machine) (o : ObjectCode) (first k : ℕ) (new : Machine) : Type 0 where
  pub rest : new ≡ record old { memory = new.memory; locals = new.locals; items = new.items; spare = new.spare }
  pub base : ℕ
  pub born : IsBorn old.memory new.memory (new_name old k) base o.size o.align (object_kind o.constant) (option_map (λ s. s.value) o.shape)
  pub kept : Keeps old.memory new.memory
  pub made : IsMade new.memory (Whole (new_name old k))
  pub items : IsSound old.memory → new.items ≡ old.items ++ (Born (new_name old k) ∷ [])
  pub store : IsSound old.memory → (io : Io) → store_of new.memory io ≡ born_by (store_of old.memory io) (new_name old k) (Some (birth_of o))
  pub placed : first + k < 2 ^ 32 → old.top.locals + (first + k) < 2 ^ 64
      → slice_get new.locals.items (old.top.locals + (first + k)) ≡ Some (record { addr = base; name = new_name old k })
  pub others : first + k < 2 ^ 32 → old.top.locals + (first + k) < 2 ^ 64 → (j : ℕ) → j ≢ old.top.locals + (first + k)
      → slice_get new.locals.items j ≡ slice_get old.locals.items j

-- or it has no place
abbrev pub CreatesOne : (old : Machine) → ObjectCode → (first k : ℕ) → (new : Machine) → Result (Unit {0}) Halt → Type 0
CreatesOne old o first k new (Ok done) = IsOneNew old o first k new
CreatesOne old o first k new (Err halt.Unplaced) = (cannot_create old.memory (new_name old k) o.size o.align ≡ true) × (new.memory ≡ old.memory)
CreatesOne old o first k new (Err halt.NoMemory) = Unit {0}
CreatesOne old o first k new (Err (halt.Over cause number)) = ⊥
CreatesOne old o first k new (Err (halt.Raised event line clause)) = ⊥

-- the memory is sound, and so many objects of the top frame from this one on have numbers below 2^32 and places below 2^64
pub record CanBear (m : Machine) (first count : ℕ) : Type 0 where
  pub sound : IsSound m.memory
  pub numbers : first + count < 2 ^ 32
  pub places : m.top.locals + (first + count) < 2 ^ 64

-- The object of this number was created at its row, and stands among the objects of the top frame; before, there was none of its name.
pub record IsNew (old : Machine) (objects : List ObjectCode) (first k : ℕ) (new : Machine) : Type 0 where
  pub object : ObjectCode
  pub base : ℕ
  pub at : slice_get objects k ≡ Some object
  pub row : row_of new.memory.rows (new_name old k) ≡ Some (row_at (new_name old k) base object.size object.align)
  pub placed : slice_get new.locals.items (old.top.locals + (first + k)) ≡ Some (record { addr = base; name = new_name old k })
  pub made : IsMade new.memory (Whole (new_name old k))
  pub absent : (io : Io) → (born_first (new_name old) (map birth_of objects) k (store_of old.memory io)).life (new_name old k) ≡ None

-- The first so many of these objects were created in turn, and nothing else has changed; so the pick has touched them.
pub record AreNew (old : Machine) (objects : List ObjectCode) (first n : ℕ) (new : Machine) : Type 0 where
  pub rest : new ≡ record old { memory = new.memory; locals = new.locals; items = new.items; spare = new.spare }
  pub kept : Keeps old.memory new.memory
  pub types : new.memory.types ≡ old.memory.types
  pub items : new.items ≡ old.items ++ births (new_name old) n
  pub store : (io : Io) → store_of new.memory io ≡ born_first (new_name old) (map birth_of objects) n (store_of old.memory io)
  pub each : (k : ℕ) → k < n → IsNew old objects first k new
  pub others : (j : ℕ) → ((k : ℕ) → k < n → j ≢ old.top.locals + (first + k)) → slice_get new.locals.items j ≡ slice_get old.locals.items j

-- one of them has no place after the first so many were created
pub record HasNoPlace (old : Machine) (objects : List ObjectCode) (first : ℕ) (new : Machine) : Type 0 where
  pub number : ℕ
  pub middle : Machine
  pub object : ObjectCode
  pub before : AreNew old objects first number middle
  pub at : slice_get objects number ≡ Some object
  pub cannot : cannot_create middle.memory (new_name old number) object.size object.align ≡ true
  pub same : new.memory ≡ middle.memory

abbrev pub BearsAll : (old : Machine) → List ObjectCode → (first : ℕ) → (new : Machine) → Result (Unit {0}) Halt → Type 0
BearsAll old objects first new (Ok done) = AreNew old objects first (length objects) new
BearsAll old objects first new (Err halt.Unplaced) = HasNoPlace old objects first new
BearsAll old objects first new (Err halt.NoMemory) = Unit {0}
BearsAll old objects first new (Err (halt.Over cause number)) = ⊥
BearsAll old objects first new (Err (halt.Raised event line clause)) = ⊥

-- the top frame has entered the block of this number, at its next turn
abbrev pub turned : Machine → ℕ → Machine
turned m number = record m { entered = number; top = record m.top { turn = min (m.top.turn + 1) (2 ^ 64 - 1) } }

-- how many bytes are created with a block, each object counted as at least 16, at most 2^62
abbrev pub reached_with : Machine → BlockCode → ℕ
reached_with m c = min (m.memory.created + c.created) (2 ^ 62)

-- a block is entered at this turn: within the limit on created bytes its objects are created, and then the first of them take the arguments
abbrev pub EntersWithin : (old new : Machine) → BlockCode → Result (Option ℕ) Halt → Type 0
EntersWithin old new c (Ok status) =
    (status ≡ None) × (reached_with old c ≤ 2 ^ 26) × (middle : Machine)
    × AreNew old (part_of old.image.code.now.tables.objects.items c.objects) c.first (length (part_of old.image.code.now.tables.objects.items c.objects)) middle
    × PassesAll middle (with_arguments (part_of old.image.code.now.tables.objects.items c.objects) c.arguments) c.first new
EntersWithin old new c (Err (halt.Over cause number)) =
    (cause ≡ Created) × (number ≡ reached_with old c) × (2 ^ 26 < number) × (new.memory ≡ old.memory)
EntersWithin old new c (Err halt.Unplaced) =
    (reached_with old c ≤ 2 ^ 26) × HasNoPlace old (part_of old.image.code.now.tables.objects.items c.objects) c.first new
EntersWithin old new c (Err halt.NoMemory) = Unit {0}
EntersWithin old new c (Err (halt.Raised event line clause)) = ⊥

abbrev pub Enters : (old : Machine) → ℕ → (new : Machine) → Result (Option ℕ) Halt → Type 0
Enters old number new (Err halt.NoMemory) = Unit {0}
Enters old number new r =
    (c : BlockCode) × (slice_get old.image.code.now.tables.blocks.items (min (old.top.blocks + number) (2 ^ 32 - 1)) ≡ Some c)
    × (CanBear (turned old number) c.first (length (part_of old.image.code.now.tables.objects.items c.objects))
    → EntersWithin (turned old number) new c r)

-- 2. What is asked of a machine, and of the state that it stands for.

-- the objects of these blocks of a frame stand below this place
abbrev pub AreBelow : Code → Open → (limit : ℕ) → List (ℕ × ℕ) → Type 0
AreBelow code o limit [] = Unit {0}
AreBelow code o limit (b ∷ bs) =
    ((c : BlockCode) → slice_get code.tables.blocks.items (o.blocks + b.0) ≡ Some c → o.locals + (c.first + c.objects.count) ≤ limit)
    × AreBelow code o limit bs

-- so do those of the open blocks of the frames below
abbrev pub KeepPlaces : Code → (limit : ℕ) → List Open → List (Local × Place) → Type 0
KeepPlaces code limit (o ∷ os) (h ∷ hs) = AreBelow code o limit h.0.scene.blocks × KeepPlaces code limit os hs
KeepPlaces code limit _ _ = Unit {0}

-- the object takes an argument by the store of its declaration, which is its first (6.9.1p10)
pub record TakesAs (code : Code) (o : ObjectCode) (d : Decl) : Type 0 where
  pub store : StoreCode
  pub at : slice_get code.tables.stores.items o.store ≡ Some store
  pub first : store.initializing ≡ true
  pub access : store.access ≡ d.access
  pub ty : type_of store.ty.now ≡ d.ty

-- The code has the objects of the block that the definitions create, and how many bytes they count; they stand behind those of open blocks, with numbers
-- below 2^32 and places below 2^64. As many take an argument as the frame has arguments.
pub record HasBirths (code : Code) (o : Open) (bs : List (ℕ × ℕ)) (c : BlockCode) (ds : List Decl) (vs : List Value) : Type 0 where
  pub arguments : c.arguments ≡ length vs
  pub enough : length vs ≤ length ds
  pub stores : (k : ℕ) (x : ObjectCode) (d : Decl) → k < length vs → slice_get (part_of code.tables.objects.items c.objects) k ≡ Some x
      → slice_get ds k ≡ Some d → TakesAs code x d
  pub objects : map birth_of (part_of code.tables.objects.items c.objects) ≡ map birth_in ds
  pub count : c.objects.count ≡ length ds
  pub created : c.created ≡ created_after 0 ds
  pub behind : AreBelow code o (o.locals + c.first) bs
  pub numbers : c.first + length ds < 2 ^ 32
  pub places : o.locals + (c.first + length ds) < 2 ^ 64

-- Of the block that a frame of a function enters: its number is below 2^32, and so many turns are still to come; the limit on created bytes is that of the
-- profile. The frames below have their objects below those of this one, and keep their values in their rooms. Rows keep the rules of an address map, and each
-- argument is one that its object takes.
pub record CanEnter (world : World) (m : Machine) (st : State) (b : ℕ) (ds : List Decl) : Type 0 where
  pub function : is_some m.top.function ≡ true
  pub limit : world.limits.created ≡ 2 ^ 26
  pub turn : st.top.scene.turn + 1 < 2 ^ 64
  pub number : m.top.blocks + b < 2 ^ 32
  pub block : (c : BlockCode) → slice_get m.image.code.now.tables.blocks.items (m.top.blocks + b) ≡ Some c
      → HasBirths m.image.code.now m.top st.top.scene.blocks c ds st.top.arguments
  pub below : KeepPlaces m.image.code.now m.top.locals (reverse m.below.items) st.held
  pub rooms : KeepToRooms m.image.code.now (reverse m.below.items) st.held
  pub rows : RowsAreLawful world.rows
  pub takes : (k : ℕ) (d : Decl) (v : Value) → slice_get ds k ≡ Some d → slice_get st.top.arguments k ≡ Some v
      → TakesValue world.rows (auto_name world st.top.scene (suc st.top.scene.turn) k) d v

abbrev pub CanEnterFirst : World → Machine → State → Todo → Type 0
CanEnterFirst world m st (Enter b ds ∷ rest) = CanEnter world m st b ds
CanEnterFirst world m st todo = Unit {0}
