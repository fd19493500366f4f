-- What the laws of code_view give of the code of a lawful program is what run_machine asks of it (own).
use Rattle.std.specs.Prelude.{◌≡◌, ℕ, List, Some, slice_get}
use Rattle.c_typed.specs.declared.program.Program.{Program}
use Rattle.c_typed.specs.Lawful.{IsLawful}
use Rattle.c_model.specs.Steps.{Begun, Scene}
use Rattle.c_model.specs.World.{World}
use Rattle.program_view.specs.Trees.{expr_of}
use Rattle.run_layout.specs.declared.nodes.NodeInfo.{NodeInfo}
use Rattle.run_layout.specs.declared.steps.Due.{Due}
use Rattle.run_layout.specs.declared.steps.Expression.{Expression as Laid}
use Rattle.run_layout.specs.declared.steps.Listed.{Listed}
use Rattle.run_layout.specs.declared.whole.Code.{Code}
use Rattle.run_layout.specs.LaidOut.{LaidOutBy}
use Rattle.run_layout.specs.OfTrees.{ListsTrees, listing_in}
use Rattle.run_statements.specs.declared.jumps.Jumps.{Jumps}
use Rattle.run_statements.specs.declared.numbers.Numbers.{Numbers}
use Rattle.run_answers.specs.Jumps.{HasLabels}
use Rattle.run_answers.specs.Taking.{AreLawful, HasRooms, IsEventOf}
use Rattle.code_view.specs.Events.{IsEventOfCode}
use Rattle.code_view.specs.Labels.{KeepsLabelsOf}
use Rattle.code_view.specs.Laws.{IsCodeOfProgram}
use Rattle.code_view.specs.Rooms.{HasRoomsOf}

-- the rooms of a full expression
abbrev pub RoomsAreAsked : Type 0
RoomsAreAsked = (entries : List Listed) (rooms : ℕ) (e : Begun) → HasRoomsOf entries rooms e.root → HasRooms entries rooms e

-- .. which are there where the code has a room for each node, and one for each update that gives its old value
abbrev pub CodeHasRooms : Type 0
CodeHasRooms = (code : Code) (firsts : List ℕ) (nodes : List NodeInfo) (n : ℕ) (laid : Laid) (e : Begun) → ListsTrees code
    → slice_get code.expressions.items n ≡ Some laid → LaidOutBy firsts nodes code.tables code.listing.items laid
    → e.root ≡ expr_of laid.root.now → HasRooms (listing_in code.listing.items laid) laid.rooms e

-- an event that is listed
abbrev pub EventsAreAsked : Type 0
EventsAreAsked = (world : World) (code : Code) (f : Scene) (laid : Laid) (e : Begun) (d : Due) → IsEventOfCode world code f laid e.root d
    → IsEventOf world code f laid e d

-- the labels of a function
abbrev pub LabelsAreAsked : Type 0
LabelsAreAsked = (code : Code) (jumps : Jumps) (n : ℕ) → KeepsLabelsOf code jumps n → HasLabels code jumps (Some n)

-- the constants that objects are filled with
abbrev pub ConstantsAreAsked : Type 0
ConstantsAreAsked = (p : Program) (numbers : Numbers) (code : Code) → IsLawful p → IsCodeOfProgram p numbers code → AreLawful p code
