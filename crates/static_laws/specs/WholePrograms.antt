-- The program of a run of a lawful typed program is made of that program's full expressions, so it keeps the sizes of its types.
use Rattle.std.specs.Prelude.{◌≡◌, ℕ, true, List}
use Rattle.ub_base.specs.declared.names.Event.{Event}
use Rattle.ub_base.specs.Frames.{Path}
use Rattle.addr_map.specs.declared.map.Row.{Row}
use Rattle.c_types.specs.declared.library.LibFunc.{LibFunc}
use Rattle.c_types.specs.Types.{CType}
use Rattle.c_types.specs.Same.{compatible}
use Rattle.c_typed.specs.declared.tree.Place.{Place}
use Rattle.c_typed.specs.declared.tree.Typed.{Typed}
use Rattle.c_typed.specs.declared.program.Program.{Program}
use Rattle.c_typed.specs.Lawful.{IsLawful}
use Rattle.c_model.specs.Values as values
use Rattle.c_model.specs.World.{World, Limits}
use Rattle.c_model.specs.Steps.{Pick}
use Rattle.c_model.specs.Runs.{Entry, Outcome, trace_of}
use Rattle.c_model.specs.Findings.{Race}
use Rattle.c_model.specs.Claims.{ComesTo}
use Rattle.value_laws.specs.Sizes.{Gives, IsPlain, ProgramFits}
use Rattle.value_laws.specs.Parameters.{ProgramTakes}
use Rattle.value_laws.specs.Layouts.{laid_out}
use Rattle.program_view.specs.View.{model_of, world_of, main_values}
use Rattle.program_view.specs.Trees.{expr_of}
use Rattle.static_laws.specs.LawfulSizes.{IsProgramOf}
use Rattle.static_laws.specs.NeverRaces.{AreRows, PickedIn, IsUsual}
use Rattle.static_laws.specs.Apart.{never_races}

-- A run of the program with these arguments: a call asks whether function types are compatible (6.5.2.2p9), and the library gives no
-- structure or union.
pub record IsRunOf (p : Program) (arguments : List (List ℕ)) (world : World) : Type 0 where
  pub program : world.program ≡ model_of p arguments
  pub agree : (a b : CType) → world.agree a b ≡ compatible a b
  pub library : (f : LibFunc) (who : Event) (ts : List CType) (vs : List values.Value) → Gives world.rows IsPlain (world.library f who ts vs)

abbrev pub WholeProgramsAreMade : Type 0
WholeProgramsAreMade =
    (p : Program) (arguments : List (List ℕ)) (world : World) → IsLawful p → IsRunOf p arguments world → IsProgramOf p world

-- So the sizes are kept by each of its nodes, calls and results.
abbrev pub WholeProgramsFit : Type 0
WholeProgramsFit =
    (p : Program) (arguments : List (List ℕ)) (world : World) → IsLawful p → IsRunOf p arguments world
    → ProgramFits (laid_out p.tags) world

-- And by its parameters, those of `main` too.
abbrev pub WholeParametersFit : Type 0
WholeParametersFit =
    (p : Program) (arguments : List (List ℕ)) (world : World) → IsLawful p → IsRunOf p arguments world
    → ProgramTakes (laid_out p.tags) world (main_values p world arguments)

-- So in each run of the program, under any rows, with the library of libc_spec.
abbrev pub RunsKeepSizes : Type 0
RunsKeepSizes =
    (p : Program) (arguments : List (List ℕ)) (rows : List Row) (number : Path → ℕ) (limits : Limits) → IsLawful p
    → ProgramFits (laid_out p.tags) (world_of p arguments rows number limits)
    × ProgramTakes (laid_out p.tags) (world_of p arguments rows number limits) (main_values p (world_of p arguments rows number limits) arguments)

-- Wherever an order of such a run holds a race, its newer event was picked where a full expression runs that is the model's of no tree whose
-- accesses are all apart (6.5p2).
abbrev pub RunsNeverRace : Type 0
RunsNeverRace =
    (p : Program) (arguments : List (List ℕ)) (rows : List Row) (number : Path → ℕ) (limits : Limits) → IsLawful p → AreRows rows
    → let world = world_of p arguments rows number limits in
    (input : List ℕ) (vs : List values.Value) (ps : List Pick) (o : Outcome) → ComesTo world input vs ps o
    → (d e : Entry) (u v : Place) → Race world (trace_of o) d u e v
    → (picked : PickedIn world input vs ps d u)
    × ((function : ℕ) (root : Typed) → picked.begun.root ≡ expr_of root → IsUsual p function root → never_races true p function root ≡ true → ⊥)
