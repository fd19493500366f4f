-- The machine of a lawful program is going before its first pick, in the state from which the definitions of runs start (5.1.2.2.1, own).
use Rattle.std.specs.Prelude.{◌≡◌, ◌≤◌, ◌<◌, ◌^◌, ℕ, List, [], ◌∷◌, map}
use Rattle.ub_base.specs.declared.clause.Cause.TheVariants as cause
use Rattle.ub_base.specs.Frames.{Path}
use Rattle.addr_map.specs.declared.map.Row.{Row}
use Rattle.c_typed.specs.declared.program.Program.{Program}
use Rattle.mem_objects.specs.Keeps.{RowsStay}
use Rattle.c_model.specs.Program.{Standing}
use Rattle.c_model.specs.Runs.{State, Over, Running, created_after, start}
use Rattle.c_model.specs.Values.{Value}
use Rattle.c_model.specs.World.{World, Limits}
use Rattle.program_view.specs.View.{main_values, world_of}
use Rattle.run_standing.specs.Standing.{Stand, program_name}
use Rattle.run_statements.specs.declared.numbers.Numbers.{Numbers}
use Rattle.run_state.specs.declared.machine.Machine.{Machine}
use Rattle.run_start.specs.Begins.{CountsAsDefined, IsUnstarted}
use Rattle.code_view.specs.Starting.{IsPrepared}
use Rattle.run_laws.specs.Going.{IsGoing}
use Rattle.run_laws.specs.SetUp.{IsProfile, IsSetUp}

-- what `prepare` of run_state gives of a program, these arguments and this input, in a memory in which nothing was created (own)
pub record IsMadeReady (p : Program) (arguments : List (List ℕ)) (input : List ℕ) (m : Machine) : Type 0 where
  pub prepared : IsPrepared p arguments input m
  pub counts : CountsAsDefined p arguments input m
  pub unstarted : IsUnstarted p m

-- the objects that stand before the first pick count so many bytes: `start_bytes` of run_acts (own)
abbrev pub IsStartCount : Program → (arguments : List (List ℕ)) → ℕ → Type 0
IsStartCount p arguments count =
    (os : List Standing) → Stand p (program_name ∷ arguments) os → count ≡ created_after 0 (map (λ o. o.decl) os)

-- the definitions start, and the machine is going in the state from which they do (5.1.2.2.1)
abbrev pub GoesFrom : World → Program → Numbers → (input : List ℕ) → List Value → Machine → Type 0
GoesFrom world p numbers input vs m = (st : State) × (start world input vs ≡ Running st) × IsGoing world p numbers m st 0

-- So it is in each world of the program that keeps the rows of the machine's memory, where the first frame has the number 0, as long as the objects count no
-- more than the limit on created bytes.
abbrev pub StartsGoing : Type 0
StartsGoing = (p : Program) (numbers : Numbers) (arguments : List (List ℕ)) (input : List ℕ) (m : Machine) (rows : List Row) (number : Path → ℕ)
    (limits : Limits) (count : ℕ) → IsSetUp (world_of p arguments rows number limits) p numbers m.image.code.now m.jumps → IsMadeReady p arguments input m
    → RowsStay m.memory.rows rows → number [] ≡ 0 → IsStartCount p arguments count → count ≤ 2 ^ 26
    → GoesFrom (world_of p arguments rows number limits) p numbers input (main_values p (world_of p arguments rows number limits) arguments) m

-- where they count more, the limit is passed by that number, whatever `main` is given (own)
abbrev pub StartsOver : Type 0
StartsOver = (p : Program) (arguments : List (List ℕ)) (input : List ℕ) (vs : List Value) (rows : List Row) (number : Path → ℕ) (limits : Limits) (count : ℕ)
    → IsProfile limits → IsStartCount p arguments count → 2 ^ 26 < count → start (world_of p arguments rows number limits) input vs ≡ Over cause.Created count
