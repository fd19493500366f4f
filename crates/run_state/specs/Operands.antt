-- What an operand gives in a machine, and when that is the value that the definitions give to its expression (own).
use Rattle.std.specs.Prelude.{◌≡◌, ℕ, ◌+◌, ◌<◌, ◌^◌, ◌==◌, ◌||◌, Bool, true, false, not, List, [], ◌∷◌, length, slice_get, Option, Some, option_map}
use Rattle.ub_base.specs.declared.names.ObjName.{ObjName}
use Rattle.ub_base.specs.declared.names.ObjName.TheVariants as object
use Rattle.addr_map.specs.declared.map.Row.{Row}
use Rattle.addr_map.specs.Rows.{row_of}
use Rattle.exposure.specs.declared.prov.Prov.TheVariants.{Empty, Whole}
use Rattle.c_typed.specs.declared.tree.Conversion.TheVariants as conversion
use Rattle.c_typed.specs.declared.tree.Slot.{Slot}
use Rattle.c_typed.specs.declared.tree.Slot.TheVariants as slot
use Rattle.c_typed.specs.declared.tree.Typed.{Typed}
use Rattle.c_typed.specs.Tree.{is_quiet}
use Rattle.mem_objects.specs.declared.value.Value.{Value as Kept_value}
use Rattle.mem_objects.specs.declared.value.Value.TheVariants as kept
use Rattle.mem_objects.specs.Keeps.{RowsStay}
use Rattle.c_model.specs.Program.{Expr, expr, Exprs, none, more, Number, Obj, Str, Member, Conv, tree_of}
use Rattle.c_model.specs.Steps.{Scene, quiet_value}
use Rattle.c_model.specs.Values.{Value, address_after}
use Rattle.c_model.specs.World.{World}
use Rattle.program_view.specs.Trees.{expr_of, is_pointer}
use Rattle.run_values.specs.Kept.{IsOf}
use Rattle.run_values.specs.Placed.{ArePlaced}
use Rattle.run_values.specs.Views.{value_in}
use Rattle.run_layout.specs.declared.steps.BlockCode.{BlockCode}
use Rattle.run_layout.specs.declared.steps.Operand.{Operand}
use Rattle.run_layout.specs.declared.steps.Operand.TheVariants as operand
use Rattle.run_layout.specs.Resolved.{resolved}
use Rattle.run_state.specs.declared.machine.Local.{Local}
use Rattle.run_state.specs.declared.machine.Machine.{Machine}
use Rattle.run_state.specs.Stands.{Holds, StandLocals}

-- a pointer so many bytes into the object of this name that stands at an address
abbrev pub pointer_into : ObjName → (offset address : ℕ) → Kept_value
pointer_into x offset address = kept.Ptr (address_after address offset) (Whole x)

abbrev pub into_local : ℕ → Local → Kept_value
into_local offset x = pointer_into x.name offset x.addr

-- what an operand gives: a pointer to an object where the machine has its place, a node's value where there is room for it
abbrev pub operand_in : Machine → Operand → Option Kept_value
operand_in m (operand.Integer z) = Some (kept.Int z)
operand_in m (operand.Address a) = Some (kept.Ptr a Empty)
operand_in m (operand.Function a) = Some (kept.Func a)
operand_in m (operand.Local number offset) = option_map (into_local offset) (slice_get m.locals.items (m.top.locals + number))
operand_in m (operand.Static number offset) = option_map (pointer_into (object.Static number) offset) (slice_get m.places.objects number)
operand_in m (operand.Literal number offset) = option_map (pointer_into (object.Lit number) offset) (slice_get m.places.literals number)
operand_in m (operand.Done node) = slice_get m.values.items (m.top.base + node)

-- the operand gives this value of the definitions, and what the value names was made in the memory
abbrev pub Gives : Machine → Operand → Value → Type 0
Gives m o v = (h : Kept_value) × (operand_in m o ≡ Some h) × IsOf m.memory h × (value_in m.memory h ≡ v)

-- each row begins at an address
abbrev pub AreAddresses : List Row → Type 0
AreAddresses rows = (x : ObjName) (r : Row) → row_of rows x ≡ Some r → r.base < 2 ^ 64

-- the parts of a machine that stands from which operands that are known beforehand have their values, in its top frame
pub record StandsObjects (world : World) (m : Machine) (f : Scene) : Type 0 where
  pub rows : RowsStay m.memory.rows world.rows
  pub addresses : AreAddresses world.rows
  pub places : ArePlaced m.memory m.program.now m.places
  pub locals : StandLocals world m m.top f f.blocks

-- the block is open
abbrev pub is_open : List (ℕ × ℕ) → ℕ → Bool
is_open [] block = false
is_open (b ∷ bs) block = (b.0 == block) || is_open bs block

-- the object is one of a block that is open, whose first object has this number in the function, or one with static storage
abbrev pub IsThere : Machine → (firsts : List ℕ) → List (ℕ × ℕ) → Slot → Type 0
IsThere m firsts blocks (slot.Auto block decl) =
    (code : BlockCode) × (slice_get m.image.code.now.tables.blocks.items (m.top.blocks + block) ≡ Some code) × (slice_get firsts block ≡ Some code.first)
    × (decl < code.objects.count) × (code.first + decl < 2 ^ 32) × (is_open blocks block ≡ true)
IsThere m firsts blocks (slot.Static number) = number < length m.program.now.statics

abbrev mutual
  -- an integer that is known beforehand (6.6p6)
  pub is_integer : Expr → Bool
  is_integer (expr (Number z) ty line es) = not (is_pointer ty)
  is_integer (expr (Conv (conversion.Integer kind)) ty line es) = first_is_integer es
  is_integer e = false

  pub first_is_integer : Exprs → Bool
  first_is_integer none = false
  first_is_integer (more e es) = is_integer e

-- where an expression is known beforehand: a constant of a pointer type is null (6.3.2.3p3), the objects that are named are there, and
-- what is converted to an integer type is an integer (6.3.1.3)
abbrev mutual
  pub IsNamed : Machine → (firsts : List ℕ) → List (ℕ × ℕ) → Expr → Type 0
  IsNamed m firsts blocks (expr (Number z) ty line es) = is_pointer ty ≡ false
  IsNamed m firsts blocks (expr (Obj s) ty line es) = IsThere m firsts blocks s
  IsNamed m firsts blocks (expr (Str number) ty line es) = number < length m.program.now.literals
  IsNamed m firsts blocks (expr (Member offset) ty line es) = FirstIsNamed m firsts blocks es
  IsNamed m firsts blocks (expr (Conv (conversion.Integer kind)) ty line es) = first_is_integer es ≡ true
  IsNamed m firsts blocks e = Unit {0}

  pub FirstIsNamed : Machine → (firsts : List ℕ) → List (ℕ × ℕ) → Exprs → Type 0
  FirstIsNamed m firsts blocks none = Unit {0}
  FirstIsNamed m firsts blocks (more e es) = IsNamed m firsts blocks e

-- An expression that is known beforehand has the value that its operand gives.
abbrev pub QuietGives : Type 0
QuietGives = (world : World) (m : Machine) (f : Scene) (firsts : List ℕ) (t : Typed) (n : ℕ) → StandsObjects world m f →
    is_quiet (tree_of (expr_of t)) ≡ true → IsNamed m firsts f.blocks (expr_of t) → Gives m (resolved firsts t n) (quiet_value world f (expr_of t))

-- Of any other the operand gives what the room of its node holds.
abbrev pub RoomGives : Type 0
RoomGives = (m : Machine) (firsts : List ℕ) (t : Typed) (n : ℕ) (v : Value) → is_quiet (tree_of (expr_of t)) ≡ false →
    Holds m.memory m.values.items (m.top.base + n) v → Gives m (resolved firsts t n) v
