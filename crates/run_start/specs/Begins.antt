-- The machine of a program before its first pick stands for the state that the definitions start from (own).
use Rattle.std.specs.Prelude.{◌≡◌, ℕ, ◌≤◌, ◌+◌, [], ◌∷◌, List, length, map, slice_get, Option, None, Some}
use Rattle.std.specs.Borrow.{Bor}
use Rattle.addr_map.specs.declared.map.Row.{Row}
use Rattle.ub_base.specs.Frames.{Path}
use Rattle.c_typed.specs.declared.program.Program.{Program}
use Rattle.c_types.specs.Types.{CType, type_of}
use Rattle.c_typed.specs.declared.program.Constant.{Constant}
use Rattle.c_typed.specs.declared.tree.Access.{Access}
use Rattle.c_typed.specs.declared.tree.Access.TheVariants as access
use Rattle.mem_spec.specs.Agreement.{number_of_kind, read_as_int}
use Rattle.mem_spec.specs.Streams.{silent}
use Rattle.mem_objects.specs.declared.cell.Via.{Via}
use Rattle.mem_objects.specs.declared.cell.Via.TheVariants as vias
use Rattle.mem_objects.specs.declared.value.Value.{Value as Kept_value}
use Rattle.mem_objects.specs.Cells.{type_numbered}
use Rattle.mem_objects.specs.Keeps.{RowsStay}
use Rattle.mem_objects.specs.Memory.{Kept, store_of}
use Rattle.c_model.specs.Program.{Standing}
use Rattle.c_model.specs.Values.{Value}
use Rattle.c_model.specs.World.{World, Limits}
use Rattle.c_model.specs.Runs.{State, Running, start, created_after, too_many, limit_passed}
use Rattle.program_view.specs.View.{main_values, standing_of}
use Rattle.run_values.specs.Kept.{IsOf}
use Rattle.run_standing.specs.Standing.{Stand, program_name}
use Rattle.run_standing.specs.Viewed.{IsGiven}
use Rattle.run_values.specs.declared.places.Places.{Places}
use Rattle.run_standing.specs.declared.initial.Started.{Started}
use Rattle.run_values.specs.declared.filling.Filling.{Filling}
use Rattle.run_values.specs.Contents.{CanHoldAll}
use Rattle.run_control.specs.declared.statement.Statement.{Statement}
use Rattle.run_control.specs.declared.work.Use.TheVariants as for_use
use Rattle.run_control.specs.declared.work.Work.TheVariants as work
use Rattle.run_control.specs.Stacked.{Stacked}
use Rattle.run_control.specs.View.{Meaning}
use Rattle.run_layout.specs.declared.whole.Code.{Code}
use Rattle.run_layout.specs.declared.steps.FunctionCode.{FunctionCode}
use Rattle.run_layout.specs.declared.steps.StoreCode.{StoreCode}
use Rattle.run_layout.specs.OfTrees.{ListsTrees}
use Rattle.run_statements.specs.declared.jumps.Jumps.{Jumps}
use Rattle.run_statements.specs.Jumping.{HasJumps}
use Rattle.run_state.specs.declared.machine.Machine.{Machine}
use Rattle.run_state.specs.declared.machine.Open.{Open}
use Rattle.run_state.specs.Meaning.{world_with, StandsCode}
use Rattle.run_state.specs.Stands.{HoldsAll, AreBytes, Stands}

-- the objects before the first pick, and the frame of `main`, pass no limit
pub record StartIsWithin (limits : Limits) (os : List Standing) (m : Machine) : Type 0 where
  pub objects : too_many limits (created_after 0 (map (λ o. o.decl) os)) ≡ None
  pub rest : limit_passed limits 1 (store_of m.memory m.streams) ≡ None

-- the definitions start from a state that the machine stands for
abbrev pub StartsAs : World → (Option ℕ → Meaning) → List ℕ → List Value → Machine → Type 0
StartsAs world meaning input vs m = (st : State) × (start world input vs ≡ Running st) × Stands world meaning m st

-- Some objects are those that stand before the first pick (`Stand`). In each world of the program with these objects, whose rows have those of the
-- machine's memory, in which the first frame has the number 0, and whose limits are kept: where the numbers in the code stand for what is in the program,
-- the listing of each full expression is that of its tree, and `main` is given what the first rooms hold, the definitions start from a state that the
-- machine stands for.
abbrev pub BeginsAsDefined : Program → List (List ℕ) → List ℕ → Machine → Type 0
BeginsAsDefined p arguments input m =
    (os : List Standing) × Stand p (program_name ∷ arguments) os
    × ((rows : List Row) (number : Path → ℕ) (limits : Limits) (meaning : Option ℕ → Meaning) (vs : List Value) → RowsStay m.memory.rows rows
    → number [] ≡ 0 → StartIsWithin limits os m → StandsCode (world_with p arguments os rows number limits) p m.image.code.now meaning
    → ListsTrees m.image.code.now → HoldsAll m.memory m.values.items 0 vs → StartsAs (world_with p arguments os rows number limits) meaning input vs m)

-- The first rooms hold what `main` is given, in each world of the program whose rows have those of the machine's memory: how many strings there are and a
-- pointer to the array of pointers to them where it takes arguments, and else nothing (5.1.2.2.1p2).
abbrev pub HoldsGiven : Program → List (List ℕ) → Machine → Type 0
HoldsGiven p arguments m = (os : List Standing) (rows : List Row) (number : Path → ℕ) (limits : Limits) → RowsStay m.memory.rows rows
    → HoldsAll m.memory m.values.items 0 (main_values p (world_with p arguments os rows number limits) arguments)

-- labels are kept of these bodies of the functions in turn, and that of a function that has code is its body there
pub record KeepsLabels (code : Code) (jumps : Jumps) : Type 0 where
  pub bodies : List (Option (Bor Statement))
  pub labels : HasJumps jumps bodies
  pub each : (n : ℕ) (c : FunctionCode) → slice_get code.functions.items n ≡ Some (Some c)
      → (b : Bor Statement) × (slice_get bodies n ≡ Some (Some b)) × (b.now ≡ c.body)

-- Of the parts that a machine is made of before its first pick.

-- the body of a function, where it has code
abbrev pub IsBodyOf : Option FunctionCode → Option (Bor Statement) → Type 0
IsBodyOf None None = Unit {0}
IsBodyOf (Some c) (Some b) = b.now ≡ c.body
IsBodyOf _ _ = ⊥

-- the rooms are those of what `main` is given, so many strings, where it takes arguments
abbrev pub IsGivenIn : Kept → Program → (count : ℕ) → List Kept_value → Type 0
IsGivenIn m p count values =
    (s : Started) × (values ≡ s.count ∷ s.vector ∷ []) × IsOf m s.count × IsOf m s.vector × IsGiven m p count s

-- the frame of `main` before its first step: the rooms and the objects begin with it, and no full expression is open (own)
pub record IsFirst (p : Program) (o : Open) : Type 0 where
  pub number : o.frame.0 ≡ 0
  pub turn : o.turn ≡ 0
  pub stage : o.stage ≡ None
  pub how : o.how ≡ for_use.Unused
  pub base : o.base ≡ 0
  pub rooms : o.rooms ≡ 0
  pub locals : o.locals ≡ 0
  pub function : o.function ≡ Some p.main
  pub node : o.node ≡ 0

-- the blocks, the objects and the full expressions that it sees are those of the code of `main` (own)
pub record SeesMain (p : Program) (code : Code) (o : Open) : Type 0 where
  pub main : FunctionCode
  pub at : slice_get code.functions.items p.main ≡ Some (Some main)
  pub above : o.above ≡ main.objects
  pub blocks : o.blocks ≡ main.blocks
  pub expressions : o.expressions ≡ main.expressions

-- A machine before its first pick: just the frame of `main` is open, with places for its objects; no full expression has begun, and nothing was touched (own).
pub record IsUnstarted (p : Program) (m : Machine) : Type 0 where
  pub program : m.program.now ≡ p
  pub top : IsFirst p m.top
  pub sees : SeesMain p m.image.code.now m.top
  pub places : m.top.above ≤ length m.locals.items
  pub below : m.below.items ≡ []
  pub entered : m.entered ≡ 0
  pub depth : m.depth ≡ 1
  pub begun : m.begun.items ≡ []
  pub strayed : m.strayed.items ≡ []
  pub left : m.left ≡ None
  pub items : m.items ≡ []
  pub spare : m.spare ≡ []

-- What the objects count which stand before the first pick was created, nothing of the input was taken, and nothing was written (5.1.2p1, 7.21.3p7).
pub record CountsAsDefined (p : Program) (arguments : List (List ℕ)) (input : List ℕ) (m : Machine) : Type 0 where
  pub created : m.memory.created ≡ created_after 0 (map (λ o. o.decl) (standing_of p arguments))
  pub streams : m.streams ≡ record { input = input; position = 0; output = silent }

-- the body of `main` is to be done
abbrev pub StartsMain : Code → Program → Stacked → Type 0
StartsMain code p s = (c : FunctionCode) × (slice_get code.functions.items p.main ≡ Some (Some c)) × (b : Bor Statement) × (b.now ≡ c.body)
    × (s ≡ record { below = [] ∷ []; now = work.ToDo b ∷ [] })

-- a scalar of this type, by its number
abbrev pub HasTypeNumber : Kept → CType → Via → Type 0
HasTypeNumber m ty (vias.Scalar id) = (type_numbered (map type_of m.types) id.number ≡ Some (read_as_int ty)) × (id.number ≤ length m.types + 12)
HasTypeNumber m ty _ = ⊥

-- the via of a store, by the number of its type
abbrev pub IsNamed : Kept → Access → CType → Via → Type 0
IsNamed m (access.Integer kind) ty via = via ≡ vias.Scalar (record { number = number_of_kind kind })
IsNamed m access.Pointer ty via = HasTypeNumber m ty via
IsNamed m access.Function ty via = HasTypeNumber m ty via
IsNamed m (access.Whole size align) ty via = via ≡ vias.Whole

abbrev pub IsNamedVia : Kept → StoreCode → Via → Type 0
IsNamedVia m s via = IsNamed m s.access (type_of s.ty.now) via

-- the bytes of constants that can be held
abbrev pub AreBytesWhere : Kept → Places → Bor (List Constant) → List Filling → Type 0
AreBytesWhere m places cs fs = CanHoldAll m places cs.now → AreBytes m cs fs
