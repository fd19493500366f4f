-- What sprintf stores, as the code has it, against the parts of its script.
use Rattle.std.specs.Prelude.{ℕ, Bool, false, List, Option, Some, None}
use Rattle.ub_base.specs.declared.names.Item.{Item}
use Rattle.mem_spec.specs.Script.{Script, ◌>>=◌, Act, Done, Raised, Ended, Outside, Unplaced}
use Rattle.mem_objects.specs.Memory.{Kept}
use Rattle.libc_spec.specs.Formatted as formatted
use Rattle.libc_spec.specs.Library.{LibValue}
use Rattle.libc_spec.specs.Formatted.{Noted, noting, touches_any, store_text}
use Rattle.libc_arguments.specs.declared.arguments.Range.{Range}
use Rattle.libc_arguments.specs.Parts.{accessed_if}
use Rattle.libc_print.specs.declared.stored.Placed.{Placed}

abbrev pub placed_seen : Kept → Placed → formatted.Placed
placed_seen m p = record { bytes = p.text.items; at = accessed_if m p.target }

-- the range has a byte in common with those that were read
abbrev pub overlaps : Option Range → List Item → Bool
overlaps None is = false
overlaps (Some r) is = touches_any r.object r.from r.len is

-- an act whose value has its items
abbrev pub noted : {V : Type 0} → Act V → Act (Noted V)
noted (Done v is s) = Done (record { value = v; items = is }) is s
noted (Raised c) = Raised c
noted (Ended n is s) = Ended n is s
noted (Outside c n) = Outside c n
noted Unplaced = Unplaced

-- what a script gives is stored
abbrev pub storing : Option ℕ → Script formatted.Placed → Script LibValue
storing most script = noting script >>= store_text most
