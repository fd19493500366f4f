-- What stands before a run, and what `main` is given, as program_view has it (5.1.2p1, 5.1.2.2.1p2).
use Rattle.std.specs.Prelude.{◌≡◌, ℕ, ◌+◌, true, List, ◌∷◌, length, map, slice_get, pos}
use Rattle.ub_base.specs.declared.names.ObjName.TheVariants.{Argv}
use Rattle.addr_map.specs.declared.map.Row.{Row}
use Rattle.c_typed.specs.declared.program.Program.{Program}
use Rattle.c_model.specs.Program.{Standing}
use Rattle.c_model.specs.Runs.{created_after}
use Rattle.c_model.specs.Values.{pointer_value}
use Rattle.mem_spec.specs.Store.{Store}
use Rattle.mem_objects.specs.declared.value.Value.TheVariants.{Int}
use Rattle.mem_objects.specs.Keeps.{RowsStay}
use Rattle.mem_objects.specs.Memory.{Kept}
use Rattle.program_view.specs.Objects as view
use Rattle.program_view.specs.View.{standing_of}
use Rattle.run_standing.specs.declared.initial.Started.{Started}
use Rattle.run_standing.specs.Standing.{CreatesAll, FillsAll, Stand, place_of, program_name, takes_arguments}
use Rattle.run_values.specs.Views.{value_in}

-- the objects that stand before a run are those of the model's program, and no others
abbrev pub StandsAsViewed : Type 0
StandsAsViewed = (p : Program) (arguments : List (List ℕ)) (os : List Standing) → Stand p (program_name ∷ arguments) os → os ≡ standing_of p arguments

abbrev pub ViewStands : Type 0
ViewStands = (p : Program) (arguments : List (List ℕ)) → Stand p (program_name ∷ arguments) (standing_of p arguments)

-- where `main` takes arguments: how many strings there are, and a pointer to the array of pointers to them
abbrev pub IsGiven : Kept → Program → (count : ℕ) → Started → Type 0
IsGiven m p count s = takes_arguments (slice_get p.functions p.main) ≡ true
    → (s.count ≡ Int (pos count)) × ((rows : List Row) → RowsStay m.rows rows → (k : Kept) → value_in k s.vector ≡ pointer_value (place_of rows Argv))

-- what the objects count, after they were created and filled
abbrev pub StartCounts : Type 0
StartCounts = (rows : List Row) (os : List Standing) (s t u : Store) → CreatesAll rows os s t → FillsAll rows os t u
    → u.created ≡ created_after s.created (map (λ o. o.decl) os)
