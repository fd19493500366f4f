-- Runs of programs by the conflicts that the findings tell.
use Rattle.std.specs.Prelude.{◌≡◌, ℕ, ◌+◌, List, [], length, Option}
use Rattle.ub_base.specs.declared.names.Item.{Item}
use Rattle.mem_spec.specs.Store.{Store}
use Rattle.c_model.specs.World.{World}
use Rattle.c_model.specs.Values.{Value}
use Rattle.c_model.specs.Steps.{Local, Pick}
use Rattle.c_model.specs.Findings.{clash}
use Rattle.c_model.specs.Libraries as libc
use Rattle.c_model.specs.Machine.{Machine}
use Rattle.c_model.specs.MachineLaws.{StoreLaws}
use Rattle.c_model.specs.ModelMachine.{frame_machine}
use Rattle.machine_laws.specs.Orders.{Stopped, State, going, Order}
use Rattle.machine_laws.specs.Cuts.{Result, RunsTo}
use Rattle.machine_laws.specs.EveryOrder.{IsFine}
use Rattle.order_laws.specs.FrameEnds.{program_machine, program_ends}
use Rattle.machine_laws.specs.ToldConflicts.{telling}
use Rattle.order_laws.specs.StoreParts.{Part, Seen, Fact, store_parts}
use Rattle.order_laws.specs.Asking.{LibraryAsked}

-- The acts of a program keep the laws of the store, where the library's scripts ask for the life of what they access and create objects as
-- their rows say.
abbrev pub ActsKeepLaws : Type 0
ActsKeepLaws =
    (world : World) → LibraryAsked world → StoreLaws (frame_machine world (store_parts world.rows))

module _ (world : World) where
  -- the machine of the program's frames, with the conflicts that the findings tell
  abbrev pub told_machine : Machine (Local × ℕ) Pick Value Store Item Part Seen Fact
  told_machine = telling (program_machine world (store_parts world.rows)) (clash world.rows)

  abbrev pub told_ends : Local × ℕ → Pick → Store → Option (Stopped ℕ Store Item)
  told_ends = program_ends world (store_parts world.rows)

  -- From a frame from which one run goes on to its end without conflicts as the findings tell them, every permitted order is fine and ends
  -- alike.
  abbrev pub OrdersTell : Type 0
  OrdersTell =
      (f : Local × ℕ) (s : Store) (k : ℕ) (o : Result Value ℕ) (s' : Store) → RunsTo told_machine told_ends f s k o s'
      → (b : State (Local × ℕ) Pick Value ℕ Store Item) (ps : List Pick) → Order told_machine told_ends (going f [] [] s) ps b
      → (n : ℕ) × (length ps + n ≡ k) × IsFine told_machine told_ends b n o s'

-- So it is for every program whose library does so,
abbrev pub ProgramOrdersTell : Type 0
ProgramOrdersTell =
    (world : World) → LibraryAsked world → OrdersTell world

-- and for every program with the library of libc_spec.
abbrev pub LibraryOrdersTell : Type 0
LibraryOrdersTell = (world : World) → world.library ≡ libc.library world.rows → OrdersTell world
