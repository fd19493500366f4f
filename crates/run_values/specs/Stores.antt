-- Which stores the definitions speak of.
use Rattle.c_types.specs.Types.{CType, int}
use Rattle.c_typed.specs.declared.tree.Access.{Access}
use Rattle.c_typed.specs.declared.tree.Access.TheVariants as access
use Rattle.mem_spec.specs.Acts.{scalar}
use Rattle.mem_objects.specs.declared.cell.Via.{Via}
use Rattle.mem_objects.specs.declared.value.Value.{Value}
use Rattle.mem_objects.specs.Made.{AreNamed}
use Rattle.mem_objects.specs.Memory.{Kept, HasCell}
use Rattle.mem_objects.specs.Pieces.{IsMadeValue}
use Rattle.mem_objects.specs.Stores.{Sees}
use Rattle.run_values.specs.declared.values.Pointer.{Pointer}

-- a scalar is stored by the number of its type: of an integer that of its kind
abbrev pub SeesAs : Kept → Via → Access → CType → Type 0
SeesAs m via (access.Integer k) ty = Sees m via (scalar (int k))
SeesAs m via access.Pointer ty = Sees m via (scalar ty)
SeesAs m via access.Function ty = Sees m via (scalar ty)
SeesAs m via (access.Whole size align) ty = Unit {0}

-- the place's ambiguity, if any, has its cell, and a pointer that is stored was made in a memory that knows its objects by number
pub record CanStore (m : Kept) (place : Pointer) (value : Value) : Type 0 where
  pub cell : HasCell m place.prov
  pub named : AreNamed m
  pub made : IsMadeValue m value
