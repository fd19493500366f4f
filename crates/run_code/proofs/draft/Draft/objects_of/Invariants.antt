use Rattle.std.proofs.Common.{◌≡◌, ◌≤◌, ◌+◌, length, map, drop}
use Rattle.c_types.specs.Types.{qualified_of}
use Rattle.c_typed.specs.declared.program.Program.{Program}
use Rattle.run_layout.specs.declared.tables.Tables.{Tables}
use Rattle.run_layout.specs.Blocks.{AreObjectsFrom, counted_by}
use Rattle.run_layout.specs.EventActs.{AreGrown}
use Rattle.run_layout.specs.Fitting.{AreFit}
use Rattle.run_code.proofs.draft.Draft.objects_of.Given as goal

-- objects are only added, and no full expression; with the objects that are left there are all of them
abbrev pub invariant-loop-qual : goal.invariant-loop-qual
invariant-loop-qual l =
    (l.first ≤ length l.self.expressions.tables.objects.items) × (l.self.expressions.laid ≡ l.fn.self.expressions.laid)
    × ((p : Program) → AreFit p l.fn.self.expressions.tables → AreFit p l.self.expressions.tables)
    × (l.self.function ≡ l.fn.self.function)
    × (l.self.expressions.tables.blocks.items ≡ l.fn.self.expressions.tables.blocks.items)
    × AreGrown l.fn.self.expressions.tables l.self.expressions.tables
    × (length l.self.expressions.tables.objects.items ≡ l.first + l.qual-index)
    × (counted_by l.tags l.created (map qualified_of (drop l.qual-index l.qual-items)) ≡ counted_by l.tags 0 (map qualified_of l.qual-items))
    × ((new : Tables) → AreGrown l.self.expressions.tables new
    → AreObjectsFrom l.tags new (l.first + l.qual-index) (map qualified_of (drop l.qual-index l.qual-items))
    → AreObjectsFrom l.tags new l.first (map qualified_of l.qual-items))
