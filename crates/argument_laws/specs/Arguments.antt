-- The arguments in the frames of a run of a lawful program (6.5.2.2p2, 6.5.2.2p4, 6.9.1p10), and of `main` (5.1.2.2.1p2).
use Rattle.std.specs.Prelude.{◌≡◌, ℕ, List, [], ◌∷◌, length, map, Some, slice_get}
use Rattle.ub_base.specs.declared.names.ObjName.{ObjName}
use Rattle.addr_map.specs.Sound.{Apart}
use Rattle.c_types.specs.Same.{compatible}
use Rattle.c_types.specs.declared.ty.FuncTy.{out-FuncTy}
use Rattle.c_typed.specs.declared.program.Function.{Function}
use Rattle.c_typed.specs.declared.program.Program.{Program}
use Rattle.c_typed.specs.Lawful.{IsLawful}
use Rattle.c_model.specs.Control.{Todo, Enter, ready_work}
use Rattle.c_model.specs.Libraries.{library}
use Rattle.c_model.specs.Program.{Decl}
use Rattle.c_model.specs.Runs.{State, Running, After, step, start, canonical_after}
use Rattle.c_model.specs.Steps.{Pick}
use Rattle.c_model.specs.Values.{Value}
use Rattle.c_model.specs.World.{World}
use Rattle.program_view.specs.View.{function_of, main_values}
use Rattle.frame_laws.specs.Named.{MainIsBlock}
use Rattle.value_facts.specs.Held.{HoldsOnly}
use Rattle.value_facts.specs.Sources.{IsPlaced}
use Rattle.argument_laws.specs.Taking.{TakesArgument}

-- 1. The states of a run.

-- A world that has the functions of a lawful program whose `main` is a block (6.9.1p1); calls ask for compatible types (6.5.2.2p9), and the library is that
-- of every run.
pub record RunsLawful (of_run : World) (p : Program) : Type 0 where
  pub lawful : IsLawful p
  pub main_block : MainIsBlock p
  pub functions : of_run.program.functions ≡ map (function_of p.tags) p.functions
  pub main : of_run.program.main ≡ p.main
  pub agree : of_run.agree ≡ compatible
  pub library : of_run.library ≡ library of_run.rows

-- a state that picks, permitted or not, lead to from the start with some input and some strings for `main` (5.1.2.2.1p2)
pub data IsReached (world : World) (p : Program) : State → Type 0 where
  at_start : (input : List ℕ) (strings : List (List ℕ)) (st : State) → start world input (main_values p world strings) ≡ Running st → IsReached world p st
  behind : (st after : State) (pick : Pick) → IsReached world p st → step world st pick ≡ Running after → IsReached world p after

-- A state of a run of a lawful program: its frames have the arguments that the laws below say.
pub record HaveArguments (world : World) (p : Program) (st : State) : Type 0 where
  pub of_program : RunsLawful world p
  pub reached : IsReached world p st

-- 2. It is so at the start, and each pick keeps it so, whether or not it is permitted.

abbrev pub StartsWithArguments : Type 0
StartsWithArguments =
    (world : World) (p : Program) (input : List ℕ) (strings : List (List ℕ)) (st : State) → RunsLawful world p
    → start world input (main_values p world strings) ≡ Running st → HaveArguments world p st

abbrev pub StepsKeepArguments : Type 0
StepsKeepArguments = (world : World) (p : Program) (st after : State) (pick : Pick) → HaveArguments world p st → step world st pick ≡ Running after
    → HaveArguments world p after

abbrev pub OrdersKeepArguments : Type 0
OrdersKeepArguments = (world : World) (p : Program) (st after : State) (ps : List Pick) → HaveArguments world p st → After world st ps (Running after)
    → HaveArguments world p after

abbrev pub CanonicalKeepsArguments : Type 0
CanonicalKeepsArguments = (world : World) (p : Program) (n : ℕ) (st after : State) → HaveArguments world p st
    → canonical_after world n st ≡ Running after → HaveArguments world p after

-- 3. What is so of the top frame.

-- Where no block of it is open yet, it has as many arguments as its function has parameters (6.5.2.2p2).
abbrev pub ArgumentsAreThere : Type 0
ArgumentsAreThere =
    (world : World) (p : Program) (st : State) (n : ℕ) (f : Function) → HaveArguments world p st → st.top.scene.blocks ≡ []
    → st.top.function ≡ Some n → slice_get p.functions n ≡ Some f → length st.top.arguments ≡ length (out-FuncTy f.ty).params

-- Where a block is entered next, its object of each number takes the argument of that number, under any name (6.5.2.2p4, 6.9.1p10).
abbrev pub ArgumentsAreTaken : Type 0
ArgumentsAreTaken =
    (world : World) (p : Program) (st : State) (b : ℕ) (ds : List Decl) (rest : Todo) → HaveArguments world p st → HoldsOnly (IsPlaced world) st
    → Apart world.rows → ready_work st.top.todo ≡ Enter b ds ∷ rest → (k : ℕ) (d : Decl) (v : Value) (x : ObjName)
    → slice_get ds k ≡ Some d → slice_get st.top.arguments k ≡ Some v → TakesArgument world.rows x d v
