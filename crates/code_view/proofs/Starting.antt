-- The machine of a lawful program before its first pick.
use Rattle.std.proofs.Common.{◌≡◌, ℕ, refl, subst, [], List}
use Rattle.addr_map.specs.declared.map.Row.{Row}
use Rattle.ub_base.specs.Frames.{Path}
use Rattle.c_typed.specs.declared.program.Program.{Program}
use Rattle.c_typed.specs.Lawful.{IsLawful}
use Rattle.mem_objects.specs.Keeps.{RowsStay}
use Rattle.c_model.specs.Program.{Standing}
use Rattle.c_model.specs.World.{Limits}
use Rattle.program_view.specs.View.{main_values, standing_of}
use Rattle.run_standing.proofs.Viewed.{as_viewed}
use Rattle.run_statements.specs.declared.numbers.Numbers.{Numbers}
use Rattle.run_layout.specs.OfTrees.{ListsTrees}
use Rattle.run_start.specs.Begins.{StartIsWithin, StartsAs}
use Rattle.run_state.specs.Meaning.{StandsProgram, world_with}
use Rattle.run_state.specs.declared.machine.Machine.{Machine}
use Rattle.code_view.specs.Laws.{IsCodeOfProgram}
use Rattle.code_view.specs.Numbering.{meaning_of}
use Rattle.code_view.specs.Starting.{IsPrepared, LawfulStartStands}
use Rattle.code_view.proofs.Formed.{trees_formed}
use Rattle.code_view.proofs.Whole.{code_stands}

-- in the worlds of what stands before the first pick
abbrev StartsIn : Program → List (List ℕ) → List Row → (Path → ℕ) → Limits → Numbers → List ℕ → Machine → List Standing → Type 0
StartsIn p words rows number limits numbers input m os =
    StartIsWithin limits os m → StartsAs (world_with p words os rows number limits) (meaning_of p numbers m.image.code.now) input
    (main_values p (world_with p words os rows number limits) words) m

prepared : (p : Program) (words : List (List ℕ)) (rows : List Row) (number : Path → ℕ) (limits : Limits) (numbers : Numbers) (input : List ℕ)
    (m : Machine) → IsLawful p → IsCodeOfProgram p numbers m.image.code.now → ListsTrees m.image.code.now → (made : IsPrepared p words input m) →
    RowsStay m.memory.rows rows → number [] ≡ 0 → StartsIn p words rows number limits numbers input m made.begins.0
prepared p words rows number limits numbers input m lawful code listed made stay zero within =
    let os = made.begins.0 in
    let world = world_with p words os rows number limits in
    let program : StandsProgram world p = record { functions = refl; main = refl; agree = refl; library = refl } in
    made.begins.2 rows number limits (meaning_of p numbers m.image.code.now) (main_values p world words) stay zero within
    (code_stands p numbers m.image.code.now world lawful code program) listed (made.given os rows number limits stay)

pub start_stands : LawfulStartStands
start_stands p terms numbers words input m rows number limits lawful blocks are code made stay zero within =
    let listed = code.listed blocks are (trees_formed p lawful) in
    let os = made.begins.0 in
    let viewed : os ≡ standing_of p words = as_viewed p words os made.begins.1 in
    let all = prepared p words rows number limits numbers input m lawful code.code_of listed made stay zero in
    subst (StartsIn p words rows number limits numbers input m) viewed all within
