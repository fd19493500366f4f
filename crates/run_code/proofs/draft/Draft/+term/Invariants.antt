use Rattle.std.proofs.Common.{◌≡◌, ◌++◌, length, map, drop}
use Rattle.c_typed.specs.declared.program.Program.{Program}
use Rattle.core_ir.specs.Term.{term_of, terms_from}
use Rattle.run_layout.specs.EventActs.{AreEntries, AreGrown}
use Rattle.run_layout.specs.Fitting.{NodesFit, AreFit}
use Rattle.run_layout.specs.Listings.{entries_of, flat, all_flat}
use Rattle.run_code.proofs.draft.Draft.+term.Given as goal

-- the entries so far, and those of the parts that are left
abbrev pub invariant-term-loop-part : goal.invariant-term-loop-part
invariant-term-loop-part l =
    (entries_of l.entries.items ++ all_flat (length l.nodes) (terms_from (map term_of (drop l.part-index l.part-items)))
    ≡ entries_of l.fn.entries.items ++ flat (length l.nodes) (term_of l.core))
    × (l.self.function.objects.first.items ≡ l.fn.self.function.objects.first.items)
    × (AreEntries l.fn.self.function.objects.first.items l.fn.self.expressions.tables l.nodes l.fn.entries.items
    → AreEntries l.self.function.objects.first.items l.self.expressions.tables l.nodes l.entries.items)
    × (l.self.expressions.laid ≡ l.fn.self.expressions.laid)
    × ((p : Program) → NodesFit p l.nodes → AreFit p l.fn.self.expressions.tables → AreFit p l.self.expressions.tables)
    × AreGrown l.fn.self.expressions.tables l.self.expressions.tables
