use Rattle.std.proofs.Common.{◌≡◌, drop}
use Rattle.c_typed.specs.declared.program.Program.{Program}
use Rattle.run_layout.specs.declared.draft.FunctionDraft.{FunctionDraft}
use Rattle.run_layout.specs.declared.tables.Tables.{Tables}
use Rattle.run_layout.specs.Blocks.{AddsBlocks}
use Rattle.run_layout.specs.Fitting.{AreFit}
use Rattle.run_code.proofs.Blocked.{rows_in}
use Rattle.run_code.proofs.draft.Draft.+survey.Given as goal

-- what follows what was added, by the entries that are left, follows the start by all
abbrev pub invariant-survey_block-loop-entry : goal.invariant-survey_block-loop-entry
invariant-survey_block-loop-entry l =
    (l.self.expressions.laid ≡ l.fn.self.expressions.laid)
    × ((p : Program) → AreFit p l.fn.self.expressions.tables → AreFit p l.self.expressions.tables)
    × ((new : Tables) (d : FunctionDraft)
    → AddsBlocks l.tags 0 (rows_in (drop l.entry-index l.entry-items)) l.self.expressions.tables l.self.function new d
    → AddsBlocks l.tags 0 (rows_in l.entry-items) l.initial.self.expressions.tables l.initial.self.function new d)
