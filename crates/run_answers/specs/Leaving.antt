-- The lives of a block's objects end as it is left (6.2.4p6).
use Rattle.std.specs.Prelude.{◌≡◌, ℕ, zero, suc, ◌+◌, ◌-◌, ◌^◌, min, List, [], ◌∷◌, ◌++◌, slice_get, Option, Some, None, Result, Ok, Err}
use Rattle.ub_base.specs.declared.names.Item.{Item}
use Rattle.ub_base.specs.declared.names.Item.TheVariants.{Dies}
use Rattle.ub_base.specs.declared.names.ObjName.{ObjName}
use Rattle.ub_base.specs.declared.names.ObjName.TheVariants.{Argv}
use Rattle.mem_spec.specs.Store.{Store, buried}
use Rattle.mem_spec.specs.Streams.{Io}
use Rattle.mem_objects.specs.Keeps.{Keeps}
use Rattle.mem_objects.specs.Memory.{store_of}
use Rattle.run_layout.specs.declared.steps.BlockCode.{BlockCode}
use Rattle.run_state.specs.declared.halt.Halt.{Halt}
use Rattle.run_state.specs.declared.halt.Halt.TheVariants.{NoMemory}
use Rattle.run_state.specs.declared.machine.Local.{Local}
use Rattle.run_state.specs.declared.machine.Machine.{Machine}

abbrev pub name_in : Option Local → ObjName
name_in None = Argv
name_in (Some l) = l.name

-- the name of an object of the top frame, so many behind this one
abbrev pub name_at : Machine → (first k : ℕ) → ObjName
name_at m first k = name_in (slice_get m.locals.items (min (m.top.locals + min (first + k) (2 ^ 32 - 1)) (2 ^ 64 - 1)))

-- so many objects die in turn
abbrev pub buried_first : (ℕ → ObjName) → ℕ → Store → Store
buried_first x zero s = s
buried_first x (suc n) s = buried (buried_first x n s) (x n)

abbrev pub deaths : (ℕ → ObjName) → ℕ → List Item
deaths x zero = []
deaths x (suc n) = deaths x n ++ (Dies (x n) ∷ [])

-- The lives of so many objects of the top frame have ended, from this one on, and nothing else has changed; so the pick has touched them.
pub record HaveDied (old : Machine) (first n : ℕ) (new : Machine) : Type 0 where
  pub rest : new ≡ record old { memory = new.memory; items = new.items; spare = new.spare }
  pub kept : Keeps old.memory new.memory
  pub objects : record new.memory { objects = [] } ≡ record old.memory { objects = [] }
  pub items : new.items ≡ old.items ++ deaths (name_at old first) n
  pub store : (io : Io) → store_of new.memory io ≡ buried_first (name_at old first) n (store_of old.memory io)

-- those of the block of this number in the frame's function
abbrev pub LeavesBlock : Machine → ℕ → Machine → Type 0
LeavesBlock old number new =
    (c : BlockCode) × (slice_get old.image.code.now.tables.blocks.items (min (old.top.blocks + number) (2 ^ 32 - 1)) ≡ Some c)
    × HaveDied old c.first c.objects.count new

-- the frame goes on: nothing but what is left to do may have changed
abbrev pub GoesStill : (old new : Machine) → Result (Option ℕ) Halt → Type 0
GoesStill old new (Ok status) = (status ≡ None) × (new ≡ record old { work = new.work })
GoesStill old new (Err halt) = halt ≡ NoMemory
