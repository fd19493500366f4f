-- The numbers that frames get in a certificate, for private clauses.
use Rattle.std.specs.Prelude.{◌≡◌, ◌⊎◌, ℕ, suc, ◌+◌, ◌-◌, ◌<◌, ◌≤◌, min, List, [], ◌∷◌, ◌++◌, length, Bool, true, get_or, Option, Some, None}
use Rattle.std.specs.List.{slice_get}
use Rattle.ub_base.specs.Frames as frames
use Rattle.ub_base.specs.declared.names.Event.{Event}
use Rattle.ub_base.specs.declared.names.Frame.{Frame}
use Rattle.ub_base.specs.declared.names.ObjName.{ObjName}
use Rattle.ub_base.specs.declared.names.ObjName.TheVariants.{Static, Lit, Argv, Arg, Auto, Heap}
use Rattle.addr_map.specs.declared.map.Row.{Row}
use Rattle.certificate.specs.declared.cert.Claim.{Claim}
use Rattle.certificate.specs.declared.cert.Claim.TheVariants.{Clean, Undefined, OrderDependent, OutOfSteps, Outside}
use Rattle.certificate_making.specs.Marking.{is_marked}

-- the new number of a frame, where so many are kept
abbrev pub number : List ℕ → ℕ → ℕ → ℕ
number numbers count frame = min (get_or numbers frame 0) count

abbrev pub frame_at : ℕ → Frame
frame_at n = record { 0 = n }

abbrev pub renamed_name : List ℕ → ℕ → ObjName → ObjName
renamed_name numbers count (Static k) = Static k
renamed_name numbers count (Lit k) = Lit k
renamed_name numbers count Argv = Argv
renamed_name numbers count (Arg k) = Arg k
renamed_name numbers count (Auto frame turn decl) = Auto (frame_at (number numbers count frame.0)) turn decl
renamed_name numbers count (Heap frame turn node) = Heap (frame_at (number numbers count frame.0)) turn node

abbrev pub renamed_row : List ℕ → ℕ → Row → Row
renamed_row numbers count row = record row { name = renamed_name numbers count row.name }

abbrev pub renamed_event : List ℕ → ℕ → Event → Event
renamed_event numbers count event = record event { frame = frame_at (number numbers count event.frame.0) }

abbrev pub renamed_pair : List ℕ → ℕ → Option (Event × Event) → Option (Event × Event)
renamed_pair numbers count None = None
renamed_pair numbers count (Some pair) = Some (renamed_event numbers count pair.0, renamed_event numbers count pair.1)

abbrev pub renamed_claim : List ℕ → ℕ → Claim → Claim
renamed_claim numbers count (Clean status output) = Clean status output
renamed_claim numbers count (Undefined clause pair) = Undefined clause (renamed_pair numbers count pair)
renamed_claim numbers count (OrderDependent event against) =
    OrderDependent (renamed_event numbers count event) (renamed_event numbers count against)
renamed_claim numbers count OutOfSteps = OutOfSteps
renamed_claim numbers count (Outside cause limit) = Outside cause limit

-- the frame f has this row now: it was there, or it is added
abbrev pub IsStarted : List frames.Row → List frames.Row → frames.Row → ℕ → Type 0
IsStarted old new row f = ((new ≡ old) × (0 < f) × (slice_get old (f - 1) ≡ Some row)) ⊎ ((new ≡ old ++ row ∷ []) × (f ≡ length old + 1))

-- the same where the frame is marked; else it isn't kept
abbrev pub IsKept : Bool → List frames.Row → List frames.Row → frames.Row → ℕ → Type 0
IsKept true old new row f = IsStarted old new row f
IsKept _ old new row f = (new ≡ old) × (f ≡ 0)

-- the frame started from the new number of its parent
abbrev pub moved : List ℕ → frames.Row → frames.Row
moved numbers row = (frame_at (get_or numbers row.0.0 0), row.1, row.2)

-- a frame that is kept is that of a marked one
pub record IsOfMarked (marks : List Bool) (count : ℕ) (numbers : List ℕ) (f : ℕ) : Type 0 where
  pub at : ℕ
  pub within : at < count
  pub marked : is_marked marks (suc at) ≡ true
  pub is : get_or numbers (suc at) 0 ≡ suc f

-- Of the first `count` rows, those of marked frames are kept, each once at least, started from where its parent is now.
pub record IsNumbered (rows : List frames.Row) (marks : List Bool) (count : ℕ) (kept : List frames.Row) (numbers : List ℕ) : Type 0 where
  pub size : length numbers ≡ suc count
  pub few : length kept ≤ count
  pub main : get_or numbers 0 0 ≡ 0
  pub within : (i : ℕ) → get_or numbers i 0 ≤ length kept
  pub there : (i : ℕ) (row : frames.Row) → i < count → is_marked marks (suc i) ≡ true → slice_get rows i ≡ Some row
      → (0 < get_or numbers (suc i) 0) × (slice_get kept (get_or numbers (suc i) 0 - 1) ≡ Some (moved numbers row))
  pub only : (f : ℕ) → f < length kept → IsOfMarked marks count numbers f
