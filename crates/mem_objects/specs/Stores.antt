-- Stores as a memory makes them (own).
use Rattle.std.specs.Prelude.{◌≡◌, ℕ, ◌≤◌, Bool, true, false, List, map, Option, Some, None, Result, Ok, Err, if◌then◌else◌}
use Rattle.ub_base.specs.declared.clause.Clause.{Clause}
use Rattle.ub_base.specs.declared.clause.Clause.TheVariants.{EffectiveType, StoreToLiteral, StoreToConst}
use Rattle.c_types.specs.Types.{CType, type_of, is_character}
use Rattle.mem_objects.specs.declared.cell.Cell.{Cell}
use Rattle.mem_objects.specs.declared.cell.Via.{Via}
use Rattle.mem_objects.specs.declared.cell.Via.TheVariants as vias
use Rattle.mem_spec.specs.declared.kind.ObjKind.{ObjKind}
use Rattle.mem_spec.specs.Agreement.{read_as_int}
use Rattle.mem_spec.specs.Store.{Life, TaggedByte}
use Rattle.mem_spec.specs.Acts.{Seen, scalar, whole, bytes, suits_store}
use Rattle.mem_objects.specs.Cells.{is_character_numbered, tagged_in, type_numbered}
use Rattle.mem_objects.specs.Memory.{Kept}

-- the type of a number as an access sees it: no enumeration, and a character type just where its number says so
pub record IsTypeOf (m : Kept) (number : ℕ) (ty : CType) : Type 0 where
  pub numbered : type_numbered (map type_of m.types) number ≡ Some ty
  pub plain : read_as_int ty ≡ ty
  pub character : is_character_numbered number ≡ is_character ty

-- how an access sees its bytes, by the types of the memory
abbrev pub Sees : Kept → Via → Seen → Type 0
Sees m (vias.Scalar id) (scalar ty) = IsTypeOf m id.number ty
Sees m vias.Whole whole = Unit {0}
Sees m vias.Bytes bytes = Unit {0}
Sees m _ _ = ⊥

-- a scalar has no more bytes than a tag counts
abbrev pub IsShort : Via → ℕ → Type 0
IsShort (vias.Scalar id) n = n ≤ 256
IsShort _ n = Unit {0}

-- the bytes with their provenances and tags
abbrev pub tagged_all : Kept → List Cell → List TaggedByte
tagged_all m cs = map (tagged_in m.origins (map type_of m.types)) cs

-- an initialization may store to a literal and to an object defined const (6.4.5p7, 6.7.3p6)
abbrev pub writable : (first : Bool) → ObjKind → Result (Unit {0}) Clause
writable true kind = Ok tt
writable false kind = if kind.literal then Err StoreToLiteral else (if kind.constant then Err StoreToConst else Ok tt)

-- the checks of a store to an object
abbrev pub checked_store : (first : Bool) → Seen → Option Life → ℕ → Result (Unit {0}) Clause
checked_store first via None from = Ok tt
checked_store first via (Some life) from = if suits_store via life.declared from then writable first life.kind else Err EffectiveType
