use Rattle.std.proofs.Common.{◌<◌, map, drop}
use Rattle.std.specs.List.{All}
use Rattle.c_typed.specs.Sites.{entries_summary, declared_in}
use Rattle.lawful_bodies.specs.declared.found.Found.{Found}
use Rattle.lawful_bodies.specs.Statements.{Follows, entry_found}
use Rattle.lawful_bodies.proofs.statements.+statement.Given as goal

-- what follows what was seen, by what is left, follows the start by all
abbrev pub invariant-block_items-loop-entry : goal.invariant-block_items-loop-entry
invariant-block_items-loop-entry l = record {
  found : (after : Found) → Follows l.tags l.inside l.found (entries_summary (map entry_found (drop l.entry-index l.entry-items))) after →
      Follows l.tags l.inside l.initial.found (entries_summary (map entry_found l.entry-items)) after;
  declared : All (λ decl. decl < l.objects) (declared_in (map entry_found (drop l.entry-index l.entry-items))) →
      All (λ decl. decl < l.objects) (declared_in (map entry_found l.entry-items));
}
