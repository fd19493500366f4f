-- Loads as a memory makes them (own).
use Rattle.std.specs.Prelude.{◌≡◌, ℕ, Bool, false, not, ◌&&◌, nat_lt, List, [], ◌∷◌, ◌++◌, map, Option, Some, None, Result, Ok, Err, if◌then◌else◌}
use Rattle.ub_base.specs.declared.clause.Clause.{Clause}
use Rattle.ub_base.specs.declared.clause.Clause.TheVariants.{EffectiveType, Indeterminate, TrapRepresentation}
use Rattle.ub_base.specs.declared.names.Item.{Item}
use Rattle.ub_base.specs.declared.names.Item.TheVariants.{Alive}
use Rattle.ub_base.specs.declared.names.ObjName.{ObjName}
use Rattle.exposure.specs.declared.prov.Prov.{Prov}
use Rattle.exposure.specs.declared.prov.Prov.TheVariants.{Empty, Whole, Either}
use Rattle.c_types.specs.Types.{CType}
use Rattle.c_types.specs.Shapes.{Form}
use Rattle.mem_objects.specs.declared.answer.MemFault.{MemFault}
use Rattle.mem_objects.specs.declared.answer.MemFault.TheVariants as faults
use Rattle.mem_objects.specs.declared.cell.Cell.{Cell}
use Rattle.mem_objects.specs.declared.cell.State.{State}
use Rattle.mem_objects.specs.declared.cell.State.TheVariants as states
use Rattle.mem_objects.specs.declared.value.Value.{Value}
use Rattle.mem_objects.specs.declared.value.Value.TheVariants as values
use Rattle.mem_spec.specs.Store.{Store, TaggedByte, is_live}
use Rattle.mem_spec.specs.Acts.{suits_load, all_written, number_of, origins_in, candidates}
use Rattle.mem_spec.specs.Streams.{Io}
use Rattle.mem_objects.specs.Memory.{Kept, store_of, uncovered_each}
use Rattle.mem_objects.specs.Made.{Settling, CanSettle, after_settling, look_up_items}

-- the number of a written byte
abbrev pub number_held : State → Cell → Option ℕ
number_held states.Unwritten c = None
number_held states.Plain c = Some c.number
number_held states.Piece c = Some c.number

-- the number of bytes that are all written
abbrev pub number_if : List TaggedByte → Option ℕ
number_if bs = if all_written bs then Some (number_of bs) else None

abbrev pub number_checked : Bool → Option ℕ → Result ℕ Clause
number_checked is_bool None = Err Indeterminate
number_checked is_bool (Some n) = if is_bool && nat_lt 1 n then Err TrapRepresentation else Ok n

-- the number that a load reads, by the checks that follow those of its access
abbrev pub number_read : CType → (is_bool : Bool) → Option Form → ℕ → List TaggedByte → Result ℕ Clause
number_read ty is_bool declared from bs = if suits_load ty declared from bs then number_checked is_bool (number_if bs) else Err EffectiveType

-- what the pieces of pointers among the bytes were made from
abbrev pub origins_of : List TaggedByte → List ObjName
origins_of [] = []
origins_of (b ∷ bs) = origins_in b.byte ++ origins_of bs

-- the memory after a load: these objects are exposed, and what the access settles is settled
pub record IsLoaded (old new : Kept) (xs : List ObjName) (settles : Settling) : Type 0 where
  pub rest : record new { cells = [] } ≡ record old { objects = uncovered_each xs old.objects; cells = [] }
  pub cells : CanSettle old.cells settles → (io : Io) → store_of (record old { cells = new.cells }) io ≡ after_settling settles (store_of old io)

-- the value is a pointer of which P holds
abbrev pub IfPointer : Value → (ℕ → Prov → Type 0) → Type 0
IfPointer (values.Ptr a prov) P = P a prov
IfPointer _ P = ⊥

-- the fault is undefined behaviour of a clause of which P holds
abbrev pub IfRaise : MemFault → (Clause → Type 0) → Type 0
IfRaise (faults.Raise c) P = P c
IfRaise faults.NoMemory P = Unit {0}

-- there are candidates and all of them are dead (6.2.4p2)
abbrev pub is_dead_in : Store → Prov → Bool
is_dead_in s Empty = false
is_dead_in s (Whole x) = not (is_live (s.life x))
is_dead_in s (Either id past start) = not (is_live (s.life past)) && not (is_live (s.life start))

-- what a load of a pointer asks for: the lives of the candidates, or what is found by the number
abbrev pub pointer_items : Option Prov → ℕ → List Item
pointer_items (Some prov) a = map Alive (candidates prov)
pointer_items None a = look_up_items a
