use Rattle.std.proofs.Common.{map, drop}
use Rattle.c_types.specs.Types.{signature_of}
use Rattle.c_typed.specs.Sites.{found_entries}
use Rattle.lawful_bodies.specs.declared.full.Place.{Place}
use Rattle.lawful_bodies.specs.Full.{Passes, in_entry}
use Rattle.lawful_bodies.proofs.full.+body_trees.Given as goal

-- what passes by what is left, passes from the start by all
abbrev pub invariant-enter_block-loop-entry : goal.invariant-enter_block-loop-entry
invariant-enter_block-loop-entry l =
    (after : Place) → Passes l.program (signature_of l.owner) l.place (found_entries (map in_entry (drop l.entry-index l.entry-items))) after →
    Passes l.program (signature_of l.owner) l.initial.place (found_entries (map in_entry l.entry-items)) after
