-- The constants of a typed program as the definitions have them, and the objects that they name (6.6p9, 6.7.9).
use Rattle.std.specs.Prelude.{◌≡◌, ℕ, ◌+◌, ◌^◌, ◌≤◌, List, [], ◌∷◌, ◌++◌, Some, slice_get}
use Rattle.ub_base.specs.declared.names.ObjName.{ObjName}
use Rattle.ub_base.specs.declared.names.ObjName.TheVariants.{Static, Lit}
use Rattle.addr_map.specs.declared.map.Row.{Row}
use Rattle.addr_map.specs.Rows.{row_of}
use Rattle.exposure.specs.declared.prov.Prov.TheVariants.{Whole}
use Rattle.mem_objects.specs.Made.{IsMade, AreNamed}
use Rattle.mem_objects.specs.Memory.{Kept}
use Rattle.c_typed.specs.declared.tree.Target.{Target}
use Rattle.c_typed.specs.declared.tree.Target.TheVariants as targets
use Rattle.c_typed.specs.declared.program.Constant.{Constant}
use Rattle.c_typed.specs.declared.program.Content.{Content as Held}
use Rattle.c_typed.specs.declared.program.Content.TheVariants as contents
use Rattle.c_model.specs.Program.{Content, Zeros, Bytes, Object_at, Function_at, Filling}
use Rattle.run_values.specs.declared.places.Places.{Places}
use Rattle.run_values.specs.declared.filling.Filling.{Filling as Put}
use Rattle.run_values.specs.Fills.{IsFilling}
use Rattle.run_values.specs.Kept.{IsFillingOf}

abbrev pub address_of : Target → (offset : ℕ) → Content
address_of (targets.Static k) offset = Object_at (Static k) offset
address_of (targets.Literal k) offset = Object_at (Lit k) offset
address_of (targets.Function k) offset = Function_at k

abbrev pub content_of : Held → Content
content_of (contents.Zeros n) = Zeros n
content_of (contents.Bytes bs) = Bytes bs
content_of (contents.Address target offset) = address_of target offset

abbrev pub filled_by : Constant → Filling
filled_by c = record { offset = c.at; content = content_of c.content }

-- the object was created at its row, which begins at this address and ends at 2^47 at most
pub record Stands (m : Kept) (x : ObjName) (base : ℕ) : Type 0 where
  pub row : Row
  pub named : row_of m.rows x ≡ Some row
  pub at : row.base ≡ base
  pub ends : row.base + row.size ≤ 2 ^ 47
  pub made : IsMade m (Whole x)

-- the object was created, and the list has its address
abbrev pub StandsAt : Kept → ObjName → (addresses : List ℕ) → ℕ → Type 0
StandsAt m x addresses k = (base : ℕ) × (slice_get addresses k ≡ Some base) × Stands m x base

-- .. the object that is named
abbrev pub IsPlaced : Kept → Places → Target → Type 0
IsPlaced m places (targets.Static k) = StandsAt m (Static k) places.objects k
IsPlaced m places (targets.Literal k) = StandsAt m (Lit k) places.literals k
IsPlaced m places (targets.Function k) = Unit {0}

abbrev pub CanHold : Kept → Places → Held → Type 0
CanHold m places (contents.Address target offset) = IsPlaced m places target
CanHold m places content = Unit {0}

abbrev pub CanHoldAll : Kept → Places → List Constant → Type 0
CanHoldAll m places [] = Unit {0}
CanHoldAll m places (c ∷ cs) = CanHold m places c.content × CanHoldAll m places cs

-- the filling of a constant is added
abbrev pub AddsFilling : Kept → Places → Constant → (old new : List Put) → Type 0
AddsFilling m places c old new =
    (f : Put) × (new ≡ old ++ f ∷ []) × (AreNamed m → CanHold m places c.content → IsFilling m f (filled_by c) × IsFillingOf m f)
