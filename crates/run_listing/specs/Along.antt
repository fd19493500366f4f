-- A listing from one place on, and the events that it lists by the operands that are chosen.
use Rattle.std.specs.Prelude.{◌≡◌, ℕ, suc, ◌-◌, List, ◌∷◌, [], take, drop, Option, Some, None, slice_get}
use Rattle.std.specs.Borrow.{Bor}
use Rattle.c_typed.specs.declared.tree.Place.{Place}
use Rattle.c_typed.specs.Order.{Taken}
use Rattle.run_layout.specs.declared.steps.Due.{Due}
use Rattle.run_layout.specs.declared.steps.Listed.{Listed}
use Rattle.run_layout.specs.declared.steps.Listed.TheVariants as listed
use Rattle.run_layout.specs.Listings.{entries_of, passed}

-- the entries from one place on up to another
abbrev pub part_of : List Listed → (from to : ℕ) → List Listed
part_of listing from to = take (to - from) (drop from listing)

-- the events of entries, without those of operands that aren't chosen
abbrev pub events_of : Taken → List Listed → List Place
events_of taken entries = passed taken 0 (entries_of entries)

-- the first event, which stands behind so many entries; none where no event is left
abbrev pub Next : Taken → List Listed → Option (ℕ × Bor Due) → Type 0
Next taken entries None = events_of taken entries ≡ []
Next taken entries (Some next) =
    (slice_get entries next.0 ≡ Some (listed.Event next.1.now)) ×
    (events_of taken entries ≡ next.1.now.place ∷ events_of taken (drop (suc next.0) entries))

-- the place of an entry that was found
abbrev pub place_of : Option (Bor Due) → Option Place
place_of None = None
place_of (Some due) = Some due.now.place

-- the event stands among these entries
abbrev pub IsListed : List Listed → Due → Type 0
IsListed entries due = (at : ℕ) × (slice_get entries at ≡ Some (listed.Event due))
