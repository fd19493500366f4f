-- Parameters take their arguments as the block of a function's body is entered (6.5.2.2p4, 6.9.1p10).
use Rattle.std.specs.Prelude.{◌≡◌, ◌≢◌, ℕ, zero, suc, ◌+◌, ◌<◌, ◌^◌, min, true, false, List, ◌++◌, length, take, slice_get, Option, Some, Result, Ok, Err}
use Rattle.std.specs.List.{All}
use Rattle.ub_base.specs.declared.clause.Clause.{Clause}
use Rattle.ub_base.specs.declared.names.Item.{Item}
use Rattle.ub_base.specs.declared.names.ObjName.{ObjName}
use Rattle.addr_map.specs.declared.map.Row.{Row}
use Rattle.addr_map.specs.Rows.{is_lawful, row_of}
use Rattle.exposure.specs.declared.prov.Prov.TheVariants.{Whole}
use Rattle.c_types.specs.Types.{CType, int}
use Rattle.c_typed.specs.declared.tree.Access.{Access}
use Rattle.c_typed.specs.declared.tree.Access.TheVariants as access
use Rattle.c_typed.specs.Lawful.{ContentIsLawful}
use Rattle.mem_spec.specs.Acts.{Seen, base_in, has_place, scalar, suits_store, whole}
use Rattle.mem_spec.specs.Agreement.{bytes_of_kind}
use Rattle.mem_spec.specs.Script.{Script, Give, Done, Raised, run, ◌>>◌}
use Rattle.mem_objects.specs.declared.value.Value.{Value as Kept_value}
use Rattle.mem_objects.specs.Keeps.{Keeps, RowsStay}
use Rattle.mem_objects.specs.Made.{IsMade}
use Rattle.mem_objects.specs.Sound.{IsSound}
use Rattle.c_model.specs.Nodes.{overlap_inexactly}
use Rattle.c_model.specs.Program.{Decl}
use Rattle.c_model.specs.Values as model
use Rattle.c_model.specs.Values.{Pointer, Value, Nothing, address_after}
use Rattle.run_values.specs.Kept.{IsOf}
use Rattle.run_values.specs.Views.{value_in}
use Rattle.run_layout.specs.declared.steps.ObjectCode.{ObjectCode}
use Rattle.run_state.specs.declared.machine.Local.{Local}
use Rattle.run_state.specs.declared.machine.Machine.{Machine}
use Rattle.run_state.specs.Stands.{StandsTables}
use Rattle.run_answers.specs.Acts.{stored_by}
use Rattle.run_answers.specs.Performs.{store_in}

-- 1. One parameter.

-- how a store comes out: it is done, and the pick has touched these items; or it raises this clause
abbrev pub PutsAs : List Row → (old new : Machine) → Script Value → Result (List Item) Clause → Type 0
PutsAs rows old new script (Ok is) = (new.items ≡ old.items ++ is) × (run rows script (store_in old) ≡ Done Nothing is (store_in new))
PutsAs rows old new script (Err c) = run rows script (store_in old) ≡ Raised c

-- the object as a place
abbrev pub place_of : Local → Pointer
place_of l = record { address = address_after l.addr 0; prov = Whole l.name }

-- memory is sound, what the code names by number stands where the machine says, and the object and the argument were made in the memory
pub record CanPass (m : Machine) (l : Local) (h : Kept_value) : Type 0 where
  pub sound : IsSound m.memory
  pub tables : StandsTables m
  pub place : IsMade m.memory (Whole l.name)
  pub value : IsOf m.memory h

-- the argument goes to the object by the store of this number, alike under all rows that have the memory's
pub record HasPassed (old : Machine) (store : ℕ) (l : Local) (h : Kept_value) (new : Machine) : Type 0 where
  pub kept : Keeps old.memory new.memory
  pub outcome : Result (List Item) Clause
  pub puts : (rows : List Row) → RowsStay old.memory.rows rows
      → PutsAs rows old new (stored_by rows (slice_get old.image.code.now.tables.stores.items store) (place_of l) (value_in old.memory h)) outcome

-- The object of this number of a block, whose first has this one in the function, takes the argument of its number out of its room.
pub record IsOnePassed (old : Machine) (o : ObjectCode) (first k : ℕ) (new : Machine) : Type 0 where
  pub rest : new ≡ record old { memory = new.memory; values = new.values; items = new.items; spare = new.spare }
  pub others : (j : ℕ) → j ≢ old.top.base + k → slice_get new.values.items j ≡ slice_get old.values.items j
  pub stores : (l : Local) (h : Kept_value) → first + k < 2 ^ 32 → slice_get old.locals.items (old.top.locals + (first + k)) ≡ Some l
      → slice_get old.values.items (old.top.base + k) ≡ Some h → CanPass old l h → HasPassed old o.store l h new

-- 2. All parameters, one after the other.

-- the store of one, where its object, its place and its argument are there
abbrev pub script_of : List Row → Machine → Option ObjectCode → Option Local → Option Kept_value → Script Value
script_of rows m (Some o) (Some l) (Some h) = stored_by rows (slice_get m.image.code.now.tables.stores.items o.store) (place_of l) (value_in m.memory h)
script_of rows m _ _ _ = Give Nothing

abbrev pub argument_script : List Row → Machine → List ObjectCode → (first k : ℕ) → Script Value
argument_script rows m objects first k =
    script_of rows m (slice_get objects k) (slice_get m.locals.items (m.top.locals + (first + k))) (slice_get m.values.items (m.top.base + k))

-- the first so many of these
abbrev pub first_of : (ℕ → Script Value) → ℕ → Script Value
first_of p zero = Give Nothing
first_of p (suc n) = first_of p n >> p n

-- Memory is sound, what the code names by number stands, and its constants are those of a lawful program. The objects and the arguments are there, and
-- were made in the memory.
pub record CanPassAll (m : Machine) (first count : ℕ) : Type 0 where
  pub sound : IsSound m.memory
  pub tables : StandsTables m
  pub lawful : All (λ cs. All (λ c. ContentIsLawful m.program.now c.content) cs.now) m.image.code.now.tables.constants.items
  pub numbers : first + count < 2 ^ 32
  pub places : (k : ℕ) → k < count → (l : Local) × (slice_get m.locals.items (m.top.locals + (first + k)) ≡ Some l) × IsMade m.memory (Whole l.name)
  pub values : (k : ℕ) → k < count → (h : Kept_value) × (slice_get m.values.items (m.top.base + k) ≡ Some h) × IsOf m.memory h

-- The first so many of these objects have taken their arguments in turn, out of their rooms, and nothing else has changed; so the pick has touched their
-- items. Where one of the stores raises a clause, all of them do so together.
pub record HavePassed (old : Machine) (objects : List ObjectCode) (first n : ℕ) (new : Machine) : Type 0 where
  pub rest : new ≡ record old { memory = new.memory; values = new.values; items = new.items; spare = new.spare }
  pub kept : Keeps old.memory new.memory
  pub others : (j : ℕ) → ((k : ℕ) → k < n → j ≢ old.top.base + k) → slice_get new.values.items j ≡ slice_get old.values.items j
  pub outcome : Result (List Item) Clause
  pub puts : (rows : List Row) → RowsStay new.memory.rows rows → PutsAs rows old new (first_of (argument_script rows old objects first) n) outcome

abbrev pub PassesAll : (old : Machine) → List ObjectCode → (first : ℕ) → (new : Machine) → Type 0
PassesAll old objects first new = CanPassAll old first (length objects) → HavePassed old objects first (length objects) new

-- the objects of a block that take arguments, of which there are so many
abbrev pub with_arguments : List ObjectCode → ℕ → List ObjectCode
with_arguments objects count = take (min (length objects) count) objects

-- 3. No store of an argument raises a clause: each initializes a new object by a value of its type.

-- how many bytes an access has, and of what its places are multiples
abbrev pub size_by : Access → ℕ
size_by (access.Integer kind) = bytes_of_kind kind
size_by access.Pointer = 8
size_by access.Function = 8
size_by (access.Whole size align) = size

abbrev pub align_by : Access → ℕ
align_by (access.Integer kind) = bytes_of_kind kind
align_by access.Pointer = 8
align_by access.Function = 8
align_by (access.Whole size align) = align

-- how it sees the bytes of an object of this type
abbrev pub seen_by : Access → CType → Seen
seen_by (access.Integer kind) ty = scalar (int kind)
seen_by access.Pointer ty = scalar ty
seen_by access.Function ty = scalar ty
seen_by (access.Whole size align) ty = whole

-- a structure or union has as many bytes, and wasn't loaded from where an object at this address would overlap it inexactly (6.5.16.1p3)
abbrev pub FitsAt : Access → (address : ℕ) → Value → Type 0
FitsAt (access.Whole size align) a (model.Whole bs source) = (length bs ≡ size) × (overlap_inexactly size a source ≡ false)
FitsAt how a v = Unit {0}

-- An object of this declaration and name takes the value: the declaration's access has the object's size and alignment, and suits its type (6.5p7); and
-- where the object has its place, the value fits there.
pub record TakesValue (rows : List Row) (x : ObjName) (d : Decl) (v : Value) : Type 0 where
  pub size : size_by d.access ≡ d.size
  pub align : align_by d.access ≡ d.align
  pub suits : suits_store (seen_by d.access d.ty) d.form 0 ≡ true
  pub value : has_place (row_of rows x) d.size d.align ≡ true → FitsAt d.access (base_in (row_of rows x)) v

-- each row keeps the rules of an address map
abbrev pub RowsAreLawful : List Row → Type 0
RowsAreLawful rows = (x : ObjName) (r : Row) → row_of rows x ≡ Some r → is_lawful r ≡ true
