-- The frames of a program, with the picks that end its run and the limit on its depth.
use Rattle.std.specs.Prelude.{◌≡◌, ℕ, ◌+◌, List, [], length, Option, Some, None, is_some, if◌then◌else◌}
use Rattle.ub_base.specs.declared.names.Item.{Item}
use Rattle.mem_spec.specs.Store.{Store}
use Rattle.mem_spec.specs.Script.{Act, Ended, run}
use Rattle.c_model.specs.World.{World}
use Rattle.c_model.specs.Values.{Value}
use Rattle.c_model.specs.Steps.{Local, Pick, does}
use Rattle.c_model.specs.Machine.{Machine}
use Rattle.c_model.specs.MachineLaws.{StoreLaws}
use Rattle.c_model.specs.ModelMachine.{StorePart, frame_machine}
use Rattle.machine_laws.specs.Orders.{Stopped, State, going, Order}
use Rattle.machine_laws.specs.Cuts.{Result, RunsTo}
use Rattle.machine_laws.specs.EveryOrder.{EndLaws, IsFine}
use Rattle.machine_laws.specs.Limits.{deep, deep_ends}

-- what an act did that ended the run
abbrev pub ended_by : Act Value → Option (Stopped ℕ Store Item)
ended_by (Ended n is s) = Some (record { number = n; items = is; store = s })
ended_by _ = None

-- a frame of a defined function counts
abbrev pub weight : Local → ℕ
weight f = if is_some f.function then 1 else 0

module _ (world : World) where
  abbrev pub frame_ends : Local → Pick → Store → Option (Stopped ℕ Store Item)
  frame_ends f p s = ended_by (run world.rows (does world f f.begun p) s)

  -- the machine of the program's frames, which start no frame beyond the limit on depth (own)
  abbrev pub program_machine : {Part Seen Fact : Type 0} → StorePart Part Seen Fact → Machine (Local × ℕ) Pick Value Store Item Part Seen Fact
  program_machine parts = deep (frame_machine world parts) frame_ends weight world.limits.depth

  abbrev pub program_ends : {Part Seen Fact : Type 0} → StorePart Part Seen Fact → Local × ℕ → Pick → Store → Option (Stopped ℕ Store Item)
  program_ends parts = deep_ends (frame_machine world parts) frame_ends weight world.limits.depth

-- Where the acts keep the laws of the store, for what is looked at there, the frames of a program keep all laws. So from a frame from which
-- one run goes on without conflicts to its end, every permitted order is fine and ends alike.
abbrev pub ProgramOrdersEndAlike : (Part Seen Fact : Type 0) → Type 0
ProgramOrdersEndAlike Part Seen Fact =
    (world : World)
    (parts : StorePart Part Seen Fact) → StoreLaws (frame_machine world parts)
    → (f : Local × ℕ) (s : Store) (k : ℕ) (o : Result Value ℕ) (s' : Store)
    → RunsTo (program_machine world parts) (program_ends world parts) f s k o s'
    → (b : State (Local × ℕ) Pick Value ℕ Store Item) (ps : List Pick)
    → Order (program_machine world parts) (program_ends world parts) (going f [] [] s) ps b
    → (n : ℕ) × (length ps + n ≡ k) × IsFine (program_machine world parts) (program_ends world parts) b n o s'

-- the frames of every program keep the laws of picks that end the run
abbrev pub FramesEnd : (Part Seen Fact : Type 0) → Type 0
FramesEnd Part Seen Fact =
    (world : World)
    (parts : StorePart Part Seen Fact) → EndLaws (frame_machine world parts) (frame_ends world)
