-- Where the objects stand before a run (5.1.2p1, 6.4.5p6).
use Rattle.std.specs.Prelude.{◌≡◌, ℕ, ◌+◌, ◌^◌, ◌≤◌, true, Some, List, [], ◌∷◌, ◌++◌, Option}
use Rattle.ub_base.specs.declared.names.ObjName.{ObjName}
use Rattle.ub_base.specs.declared.names.Item.{Item}
use Rattle.addr_map.specs.declared.map.Row.{Row}
use Rattle.addr_map.specs.Rows.{row_of}
use Rattle.exposure.specs.declared.prov.Prov.TheVariants.{Whole}
use Rattle.c_types.specs.Shapes.{Form}
use Rattle.mem_spec.specs.declared.kind.ObjKind.{ObjKind}
use Rattle.mem_spec.specs.Acts.{store, bytes, create}
use Rattle.mem_spec.specs.Script.{Done, run}
use Rattle.mem_spec.specs.Store.{TaggedByte}
use Rattle.mem_spec.specs.Streams.{Io}
use Rattle.mem_objects.specs.Keeps.{RowsStay}
use Rattle.mem_objects.specs.Made.{IsMade}
use Rattle.mem_objects.specs.Memory.{Kept, store_of}
use Rattle.run_standing.specs.declared.initial.Argument.{Argument}
use Rattle.run_values.specs.declared.values.Pointer.{Pointer}

-- the objects of the arguments of `main` were created
abbrev pub AreMadeAll : Kept → List Argument → Type 0
AreMadeAll m [] = Unit {0}
AreMadeAll m (a ∷ xs) = IsMade m a.place.prov × AreMadeAll m xs

-- one more, at this place
abbrev pub AddsArgument : Pointer → (old new : List Argument) → Type 0
AddsArgument place old new = (a : Argument) × (new ≡ old ++ a ∷ []) × (a.place ≡ place)

-- the row of the object, if any, ends at 2^47 at most
abbrev pub EndsLow : Kept → ObjName → Type 0
EndsLow m x = (r : Row) → row_of m.rows x ≡ Some r → r.base + r.size ≤ 2 ^ 47

-- under all rows that stay, the creation of this object leads from the one memory to the other
abbrev pub Creates : Kept → Kept → ObjName → (size align : ℕ) → ObjKind → Option Form → Type 0
Creates old new x size align kind form = (rows : List Row) → RowsStay new.rows rows → (io : Io) →
    (base : ℕ) × (is : List Item) × (run rows (create rows x size align kind form) (store_of old io) ≡ Done base is (store_of new io))

-- .. the initialization by these bytes at an address of an object
abbrev pub Puts : Kept → Kept → ObjName → (address : ℕ) → List TaggedByte → Type 0
Puts old new x a bs = (rows : List Row) → RowsStay old.rows rows → (io : Io) →
    (is : List Item) × (run rows (store rows true bytes 1 a (Whole x) bs) (store_of old io) ≡ Done tt is (store_of new io))
